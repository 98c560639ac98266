-- What a turn makes lies within the text, and what waits after it within the input.
use Rattle.std.proofs.Common.{sym, ◌∙◌, arith}
use Rattle.daylog.specs.Laws.Turns.{turn_within}
use Rattle.listing.proofs.carry.Goals as goal

pub loop-preserved : goal.loop-preserved
loop-preserved g c =
    let turn = c.turn-state in
    let fill = c.fill in
    let kept = c.loop.invariant in
    let within = turn_within turn.ensures (sym c.is_some.ensures ∙ c.if-is_some.false) (omega (arith, fill.auto.input, kept.3)) turn.auto.input turn.auto.text in
    (turn.auto.input ∙ fill.auto.input ∙ kept.0, turn.auto.text ∙ kept.1, omega (arith, within.0, turn.auto.text), omega (arith, within.1, turn.auto.input))
