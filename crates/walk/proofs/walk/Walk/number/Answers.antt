-- `number` is one step, with the bits' value and the range's fault.
use Rattle.std.proofs.Common.{ap, ◌∙◌, ap₂}
use Rattle.walk.specs.Laws.Reading.{got_lt}
use Rattle.walk.specs.Walk.{seen, onward}
use Rattle.walk.specs.Walk.{Walk}
use Rattle.walk.proofs.walk.Walk.number.Goals as goal

pub returns : goal.returns
unfolding onward
returns c =
    let a = c.args in
    let e = c.on.ensures ∙ ap₂ (λ v x. onward a.w a.free v x 0 (seen a.self)) c.get.ensures c.range.ensures in
    (e, got_lt a.s.now a.self.at a.w (ap (λ (r : Walk). r.v) e))
