-- `signed` is one step, with the bits' value and the fault of their sign and size.
use Rattle.std.proofs.Common.{true, ap, ◌∙◌, ap₂}
use Rattle.walk.specs.Walk.{seen, onward}
use Rattle.walk.specs.Laws.Reading.{got_lt}
use Rattle.walk.specs.Walk.{Walk}
use Rattle.walk.proofs.walk.Walk.signed.Goals as goal

pub returns : goal.returns
unfolding onward
returns c =
    let a = c.args in
    let e = c.on.ensures ∙ ap₂ (λ v x. onward a.w true v x 0 (seen a.self)) c.get.ensures c.signs.ensures in
    (e, got_lt a.s.now a.self.at a.w (ap (λ (r : Walk). r.v) e))
