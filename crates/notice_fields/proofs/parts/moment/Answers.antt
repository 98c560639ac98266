-- `moment` is five parts.
use mathlib.Core.List.{[]}
use mathlib.Core.Path.{ap, ◌∙◌}
use Rattle.format.specs.Words.{◌‥◌}
use Rattle.walk.specs.Pieces.{pieced, piecewise}
use Rattle.notice_fields.proofs.parts.moment.Goals as goal

pub returns : goal.returns
unfolding piecewise
returns c =
    let day = c.piece-day.ensures ∙ ap (pieced 5 4 ((1 ‥ 31) [])) (c.piece-2.ensures ∙ ap (pieced 4 4 ((1 ‥ 12) [])) c.piece.ensures) in
    c.piece-4.ensures ∙ ap (pieced 6 4 ((0 ‥ 59) [])) (c.piece-3.ensures ∙ ap (pieced 5 4 ((0 ‥ 23) [])) day)
