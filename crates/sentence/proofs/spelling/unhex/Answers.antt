-- `unhex`: the bytes that stand, then those of the digits from 2 * i on, are all.
use Rattle.std.proofs.Common.{◌≡◌, ◌++◌, ◌*◌, ◌+◌, ◌%◌, length, take, drop, get_or, sym, ap, ◌∙◌, arith, refl, eq-eqb, length-set}
use Rattle.std.proofs.lemmas.List.{drop_all}
use Rattle.sentence.specs.Spelling.{digit_value, unhexed}
use Rattle.sentence.specs.Laws.Turns.{unhexed_turn, store_turn, store_end}
use Rattle.sentence.proofs.spelling.unhex.Goals as goal

pub loop-i-init : goal.loop-i-init
loop-i-init c = record { long = refl; stored = refl }

pub loop-i-preserved : goal.loop-i-preserved
loop-i-preserved c =
    let s = c.args.part.now in
    let i = c.loop-i.i in
    let bytes = c.loop-i.byte-items in
    let v = digit_value (get_or s (2 * i) 0) % 16 * 16 + digit_value (get_or s (2 * i + 1) 0) % 16 in
    let e = ap (λ x. take i bytes ++ x) (sym (unhexed_turn s i (omega arith))) ∙ c.loop-i.invariant.stored in
    let t = store_turn bytes i v (unhexed (drop (2 * (i + 1)) s)) (unhexed s) (omega arith) e in
    record { long = simp length-set c.loop-i.invariant.long; stored = rw (c.digit_value-high.ensures, c.digit_value-low.ensures) t }

pub returns : goal.returns
unfolding unhexed
returns c =
    let s = c.args.part.now in
    let n : length s ≡ 34 = omega arith in
    rw (eq-eqb (length s) 34 n)
    (store_end c.loop-i.byte-items c.loop-i.i (unhexed (drop (2 * c.loop-i.i) s)) (unhexed s) (omega arith) (ap unhexed (drop_all (2 * c.loop-i.i) s (omega arith))) c.loop-i.invariant.stored)
