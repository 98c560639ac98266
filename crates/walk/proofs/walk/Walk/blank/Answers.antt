-- `blank` is one step, with the fault of a fill.
use Rattle.std.proofs.Common.{false, ap, ◌∙◌}
use Rattle.walk.specs.Walk.{seen, onward}
use Rattle.walk.proofs.walk.Walk.blank.Goals as goal

pub returns : goal.returns
returns c =
    let a = c.args in
    c.wide.ensures ∙ ap (λ x. onward a.w false 0 x 0 (seen a.self)) c.clear.ensures
