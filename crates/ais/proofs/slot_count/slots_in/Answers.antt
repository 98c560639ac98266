-- `slots_in` goes along the table: what is left of it decides, from the number that it stands at on.
use Rattle.std.proofs.Common.{◌≡◌, suc, ◌+◌, cond, sym, ap, ◌∙◌, arith, eq-eqb, ne_eqb}
use borrow.Author.Tests.{le-leb, lt-leb}
use lib.ListN.{get_or, drop}
use Rattle.format.specs.Fmt.{accepted, refused}
use Rattle.format.specs.Promises.{plain, refused_by}
use Rattle.ais.specs.Slots.{first_of, slots_in}
use Rattle.ais.specs.Laws.Slots.{first_at, first_past}
use Rattle.ais.proofs.slot_count.slots_in.Goals as goal

pub returns-then-bytes-eq0 : goal.returns-then-bytes-eq0
unfolding slots_in
returns-then-bytes-eq0 c = rw (eq-eqb c.args.bytes 0 c.if-bytes-eq0.true) (ap refused_by c.into.ensures)

pub returns-then-bytes-limit : goal.returns-then-bytes-limit
unfolding slots_in
returns-then-bytes-limit c =
    let a = c.args in
    let ls = a.limits.now in
    let i = c.loop-i.i in
    let here = first_at (suc i) ls a.bytes i c.loop-i-test.true in
    let e : first_of 1 ls a.bytes ≡ accepted (suc i) = sym c.loop-i.invariant.1 ∙ here ∙ ap (λ b. cond b (accepted (suc i)) (first_of (suc (suc i)) (drop (suc i) ls) a.bytes)) (le-leb a.bytes (get_or ls i 0) (omega (arith, c.if-bytes-limit.true))) in
    let n : i + 1 ≡ suc i = omega arith in
    ap accepted n ∙ rw (ne_eqb a.bytes 0 c.if-bytes-eq0.false) (sym (ap plain e))

pub loop-i-preserved : goal.loop-i-preserved
loop-i-preserved c =
    let a = c.args in
    let ls = a.limits.now in
    let i = c.loop-i.i in
    let here = first_at (suc i) ls a.bytes i c.loop-i-test.true in
    let n : i + 1 ≡ suc i = omega arith in
    let e : first_of (suc (suc i)) (drop (suc i) ls) a.bytes ≡ first_of 1 ls a.bytes =
    sym (here ∙ ap (λ b. cond b (accepted (suc i)) (first_of (suc (suc i)) (drop (suc i) ls) a.bytes)) (lt-leb a.bytes (get_or ls i 0) (omega (arith, c.if-bytes-limit.false)))) ∙ c.loop-i.invariant.1 in
    (omega (arith, c.loop-i-test.true), ap (λ n. first_of (suc n) (drop n ls) a.bytes) n ∙ e)

pub returns : goal.returns
unfolding slots_in
returns c =
    let a = c.args in
    let ls = a.limits.now in
    let i = c.loop-i.i in
    let e : first_of 1 ls a.bytes ≡ refused 1 0 = sym c.loop-i.invariant.1 ∙ first_past (suc i) ls a.bytes i (omega (arith, c.loop-i-test.false, c.loop-i.invariant.0)) in
    ap refused_by c.into-2.ensures ∙ rw (ne_eqb a.bytes 0 c.if-bytes-eq0.false) (sym (ap plain e))
