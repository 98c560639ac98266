-- `fill_value` steps with the fault that `inside` finds.
use Rattle.std.proofs.Common.{false, ap, ◌∙◌}
use Rattle.walk.specs.Walk.{seen, onward}
use Rattle.walk.proofs.walk.Walk.fill_value.Goals as goal

pub returns : goal.returns
returns c =
    let a = c.args in
    c.on.ensures ∙ ap (λ x. onward a.w false a.v x 0 (seen a.self)) c.inside.ensures
