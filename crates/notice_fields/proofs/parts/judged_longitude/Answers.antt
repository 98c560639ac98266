-- `judged_longitude` is the step over the number whose parts are judged.
use mathlib.Core.List.{[]}
use mathlib.Core.Path.{ap, ◌∙◌}
use Rattle.walk.specs.Pieces.{piecewise}
use Rattle.walk.specs.Reading.{grouped}
use Rattle.walk.specs.Walk.{seen}
use Rattle.notice_fields.specs.Parts.{angle, longitude_bits}
use Rattle.notice_fields.proofs.parts.judged_longitude.Goals as goal

pub returns : goal.returns
returns c =
    let a = c.args in
    c.group.ensures ∙ ap (λ g. grouped longitude_bits a.v g (seen a.w)) (c.angle.ensures ∙ ap (piecewise (angle 8 180) []) c.of.ensures)
