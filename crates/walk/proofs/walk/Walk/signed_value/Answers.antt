-- `signed_value` steps with the fault that `spells` finds.
use Rattle.std.proofs.Common.{true, ap, ◌∙◌}
use Rattle.walk.specs.Walk.{seen, onward}
use Rattle.walk.proofs.walk.Walk.signed_value.Goals as goal

pub returns : goal.returns
returns c =
    let a = c.args in
    c.on.ensures ∙ ap (λ x. onward a.w true a.v x 0 (seen a.self)) c.spells.ensures
