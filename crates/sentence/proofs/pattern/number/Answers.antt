-- `number`: the digits left spell the rest of the number, which only grows.
use Rattle.std.proofs.Common.{◌≡◌, ◌*◌, ◌+◌, drop, get_or, ap, ◌∙◌, arith, le-leb}
use Rattle.std.proofs.lemmas.List.{drop_all}
use Rattle.std.proofs.lemmas.Bool.{lt-leb}
use Rattle.sentence.specs.Spelling.{spelt}
use Rattle.sentence.specs.Laws.Digits.{spelt_nil, spelt_grows, value_most}
use Rattle.sentence.specs.Laws.Turns.{spelt_turn}
use Rattle.sentence.proofs.pattern.number.Goals.{After-from}
use Rattle.sentence.proofs.pattern.number.Goals as goal

turn : (c : After-from) → let s = c.args.part.now in
    spelt 0 s ≡ spelt (c.loop-c.all * 10 + c.from.result) (drop (c.loop-c.c-index + 1) s)
turn c =
    let s = c.args.part.now in
    c.loop-c.invariant.rest ∙ spelt_turn c.loop-c.all s c.loop-c.c-index (omega arith) ∙ rw (c.from.ensures, c.digit_value.ensures)

pub overflow_add-all : goal.overflow_add-all
overflow_add-all c = omega (arith, c.digit_value.ensures, value_most (get_or c.args.part.now c.loop-c.c-index 0))

pub returns-then-all-gt-GREATEST_ADDRESS : goal.returns-then-all-gt-GREATEST_ADDRESS
returns-then-all-gt-GREATEST_ADDRESS c =
    let d = (goal.at.returns-then-all-gt-GREATEST_ADDRESS c).After-from in
    let s = c.args.part.now in
    rw (lt-leb (spelt 0 s) 2_097_151 (omega (arith, turn d, spelt_grows (c.loop-c.all * 10 + c.from.result) (drop (c.loop-c.c-index + 1) s))))

pub loop-c-preserved : goal.loop-c-preserved
loop-c-preserved c = record { good = omega arith; rest = turn (goal.at.loop-c-preserved c).After-from }

pub returns : goal.returns
returns c =
    let s = c.args.part.now in
    let all = c.loop-c.all in
    let q : spelt 0 s ≡ all = c.loop-c.invariant.rest ∙ ap (spelt all) (drop_all c.loop-c.c-index s (omega arith)) ∙ spelt_nil all in
    rw (q, le-leb all 2_097_151 c.loop-c.invariant.good)
