-- `judged` is the step over the number whose parts are judged.
use mathlib.Core.List.{[]}
use mathlib.Core.Path.{ap, ◌∙◌}
use Rattle.format.specs.Words.{◌‥◌}
use Rattle.walk.specs.Pieces.{pieced, piecewise}
use Rattle.walk.specs.Reading.{grouped}
use Rattle.walk.specs.Walk.{seen}
use Rattle.ais_common.specs.Time.{date_parts}
use Rattle.ais_common.proofs.time.judged.Goals as goal

pub returns : goal.returns
unfolding piecewise
returns c =
    let a = c.args in
    c.group.ensures ∙ ap (λ g. grouped 20 a.v g (seen a.w)) (c.piece.ensures ∙ ap (pieced 6 4 ((0 ‥ 59) [])) (c.judged_date-g.ensures ∙ ap (piecewise (date_parts []) []) c.of.ensures))
