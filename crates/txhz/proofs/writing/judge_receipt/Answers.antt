-- `judge_receipt` is four steps of the walk.
use mathlib.Core.Path.{ap, ◌∙◌}
use Rattle.txhz.specs.Steps.{slot_judged}
use Rattle.txhz.proofs.writing.judge_receipt.Goals as goal

pub returns : goal.returns
returns c =
    let a = c.args in
    let t = a.t in
    c.judge_slot.ensures
    ∙ ap (slot_judged a.live t.receipt_minute 59) (c.judge_slot-w-3.ensures
    ∙ ap (slot_judged a.live t.receipt_hour 23) (c.judge_slot-w-2.ensures
    ∙ ap (slot_judged a.live t.sent_minute 59) c.judge_slot-w.ensures))
