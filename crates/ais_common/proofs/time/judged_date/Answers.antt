-- `judged_date` is three parts of a number.
use mathlib.Core.List.{[]}
use mathlib.Core.Path.{ap, ◌∙◌}
use Rattle.format.specs.Words.{◌‥◌}
use Rattle.walk.specs.Pieces.{pieced, piecewise}
use Rattle.ais_common.proofs.time.judged_date.Goals as goal

pub returns : goal.returns
unfolding piecewise
returns c =
    c.piece-3.ensures ∙ ap (pieced 5 4 ((0 ‥ 23) [])) (c.piece-2.ensures ∙ ap (pieced 5 4 ((0 ‥ 31) [])) c.piece.ensures)
