-- `judged_short` is the step over the number whose parts are judged.
use mathlib.Core.List.{[]}
use mathlib.Core.Path.{ap, ◌∙◌}
use Rattle.walk.specs.Pieces.{piecewise}
use Rattle.walk.specs.Reading.{grouped}
use Rattle.walk.specs.Walk.{seen}
use Rattle.ais_common.specs.Time.{date_parts}
use Rattle.ais_common.proofs.time.judged_short.Goals as goal

pub returns : goal.returns
returns c =
    let a = c.args in
    c.group.ensures ∙ ap (λ g. grouped 14 a.v g (seen a.w)) (c.judged_date-g.ensures ∙ ap (piecewise (date_parts []) []) c.of.ensures)
