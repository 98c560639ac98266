-- `decimal` stores the digits last to first: those of the rest, then those that stand, are the whole.
use mathlib.Core.Path.{◌≡◌, refl, sym, ap, ◌∙◌}
use mathlib.Core.List.{◌++◌, append-nil}
use native.Mathlib.Omega.{arith}
use lib.ListN.{drop, length-set, take-append-drop}
use Rattle.sentence.specs.Spelling.{decimal}
use Rattle.sentence.specs.Laws.Digits.{decimal_none}
use Rattle.sentence.specs.Laws.Turns.{offset_left, decimal_turn, blank_turn}
use Rattle.sentence.proofs.spelling.decimal.Goals as goal

pub loop-rest-init : goal.loop-rest-init
loop-rest-init c = (omega arith, omega (arith, c.ranges.n), refl, refl, append-nil (decimal 10 c.args.n))

pub overflow_sub-from : goal.overflow_sub-from
overflow_sub-from c = offset_left c.loop-rest.from c.loop-rest.rest c.loop-rest-test.true c.loop-rest.invariant.1

pub bounds-chars-from : goal.bounds-chars-from
bounds-chars-from c = omega (arith, offset_left c.loop-rest.from c.loop-rest.rest c.loop-rest-test.true c.loop-rest.invariant.1)

pub loop-rest-preserved : goal.loop-rest-preserved
loop-rest-preserved c =
    let from = c.loop-rest.from in
    let t = decimal_turn from c.loop-rest.rest c.loop-rest.chars (decimal 10 c.args.n) c.loop-rest-test.true c.loop-rest.invariant.1 (omega arith) c.loop-rest.invariant.4 in
    (omega arith, t.0, simp length-set c.loop-rest.invariant.2, blank_turn from c.loop-rest.chars _ c.loop-rest.invariant.3, rw c.figure.ensures t.1)

pub returns : goal.returns
returns c =
    let e : c.loop-rest.rest ≡ 0 = omega arith in
    let p = drop c.loop-rest.from c.loop-rest.chars in
    let d : p ≡ decimal 10 c.args.n = ap (λ x. x ++ p) (sym (ap (decimal c.loop-rest.from) e ∙ decimal_none c.loop-rest.from)) ∙ c.loop-rest.invariant.4 in
    record { long = c.loop-rest.invariant.2; figures = sym (take-append-drop c.loop-rest.from c.loop-rest.chars) ∙ rw (c.loop-rest.invariant.3, d) }
