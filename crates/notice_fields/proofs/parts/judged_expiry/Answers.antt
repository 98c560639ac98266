-- `judged_expiry` is the step over the number whose parts are judged, and 0 is good.
use mathlib.Core.Path.{ap, ◌∙◌}
use Rattle.walk.specs.Pieces.{unless_zero}
use Rattle.walk.specs.Reading.{grouped}
use Rattle.walk.specs.Walk.{seen}
use Rattle.notice_fields.specs.PartsSteps.{expiry_pieces}
use Rattle.notice_fields.proofs.parts.judged_expiry.Goals as goal

pub returns : goal.returns
returns c =
    let a = c.args in
    c.group.ensures ∙ ap (λ g. grouped 21 a.v g (seen a.w)) (c.or_zero.ensures ∙ ap (unless_zero 21) c.moment-parts.ensures ∙ ap expiry_pieces c.of.ensures)
