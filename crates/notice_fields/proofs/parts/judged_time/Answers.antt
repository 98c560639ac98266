-- `judged_time` is the step over the number whose parts are judged.
use mathlib.Core.List.{[]}
use mathlib.Core.Path.{ap, ◌∙◌}
use Rattle.walk.specs.Pieces.{piecewise}
use Rattle.walk.specs.Reading.{grouped}
use Rattle.walk.specs.Walk.{seen}
use Rattle.notice_fields.specs.Parts.{moment}
use Rattle.notice_fields.proofs.parts.judged_time.Goals as goal

pub returns : goal.returns
returns c =
    let a = c.args in
    c.group.ensures ∙ ap (λ g. grouped 21 a.v g (seen a.w)) (c.moment.ensures ∙ ap (piecewise moment []) c.of.ensures)
