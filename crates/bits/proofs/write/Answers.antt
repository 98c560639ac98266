-- `bits::write` meets its contract: the bytes' number is made of what the first keeps, the value, and what the last keeps.
use Rattle.std.proofs.Common.{ℕ, get_or, Fits, w8, rules, arith, sym, ◌∙◌}
use Rattle.bits.specs.Laws.Window.{stored_fits, put_is_store, put_none}
use Rattle.bits.proofs.write.Goals as goal

pub returns-then-width-eq0 : goal.returns-then-width-eq0
returns-then-width-eq0 c =
    let a = c.args in
    put_none a.s.now a.at a.width a.value (λ i. (c.type_inv.s i).fits) c.if-width-eq0.true (omega arith)

pub overflow_add-all : goal.overflow_add-all
overflow_add-all c =
    let a = c.args in
    record { fits = rw (c.from.ensures, c.from-2.ensures) (stored_fits a.s.now a.at a.width a.value (omega arith) (omega arith) (omega arith) (omega arith) (λ i. (c.type_inv.s i).fits)) }

pub returns : goal.returns
returns c =
    let a = c.args in
    let byte : (i : ℕ) → Fits w8 (get_or a.s.now i 0) = λ i. search rules in
    c.scatter.ensures
    ∙ rw (c.from.ensures, c.from-2.ensures)
    (sym (put_is_store a.s.now a.at a.width a.value (omega arith) (omega arith) (omega arith) (omega arith) (λ i. (byte i).fits)))
