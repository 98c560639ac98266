-- `hex`: the digits that stand, then those of the bytes from i on, are all.
use Rattle.std.proofs.Common.{◌≡◌, ◌∷◌, ◌++◌, ◌*◌, ◌+◌, ◌/◌, ◌%◌, length, take, drop, get_or, set, sym, ap, arith, length-set, refl, ◌∙◌}
use Rattle.std.proofs.lemmas.List.{drop_all}
use Rattle.sentence.specs.Spelling.{hex_of, lower}
use Rattle.sentence.specs.Laws.Turns.{hex_turn, store_turn, store_end}
use Rattle.sentence.proofs.spelling.hex.Goals as goal

pub loop-i-init : goal.loop-i-init
loop-i-init c = record { long = refl; stored = refl }

pub loop-i-preserved : goal.loop-i-preserved
loop-i-preserved c =
    let s = c.args.bytes in
    let n : length s ≡ 17 = omega arith in
    let out = c.loop-i.out in
    let i = c.loop-i.i in
    let b = get_or s i 0 in
    let rest = hex_of (drop (i + 1) s) in
    let e = ap (λ x. take (2 * i) out ++ x) (sym (hex_turn s i (omega arith))) ∙ c.loop-i.invariant.stored in
    let one = store_turn out (2 * i) (lower (b / 16)) (lower (b % 16) ∷ rest) (hex_of s) (omega arith) e in
    let two = store_turn (set out (2 * i) (lower (b / 16))) (2 * i + 1) (lower (b % 16)) rest (hex_of s) (simp length-set (omega arith)) one in
    let q : 2 * (i + 1) ≡ 2 * i + 1 + 1 = omega arith in
    record { long = simp (length-set, length-set) c.loop-i.invariant.long; stored = rw (q, c.figure.ensures, c.figure-in-loop-i.ensures) two }

pub returns : goal.returns
unfolding hex_of
returns c =
    let s = c.args.bytes in
    let n : length s ≡ 17 = omega arith in
    store_end c.loop-i.out (2 * c.loop-i.i) (hex_of (drop c.loop-i.i s)) (hex_of s) (omega arith) (ap hex_of (drop_all c.loop-i.i s (omega arith))) c.loop-i.invariant.stored
