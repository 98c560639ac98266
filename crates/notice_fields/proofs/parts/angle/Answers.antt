-- `angle` is four parts; those behind a refused one change nothing.
use mathlib.Core.List.{[]}
use mathlib.Core.Path.{◌≡◌, sym, ap, ◌∙◌}
use Rattle.format.specs.Words.{◌‥◌}
use Rattle.format.specs.Laws.Outcomes.{refused_code}
use Rattle.walk.specs.Pieces.{Pieces, parts, pieced, piecewise}
use Rattle.walk.specs.Laws.Pieces.{piece_stuck}
use Rattle.notice_fields.proofs.parts.angle.Goals.{After-piece-degrees}
use Rattle.notice_fields.proofs.parts.angle.Goals as goal

abbrev minute : Pieces → Pieces
minute = pieced 6 4 ((0 ‥ 60) [])

abbrev hundredth : Pieces → Pieces
hundredth = pieced 7 4 ((0 ‥ 99) [])

-- south or west, and the degrees
degrees : (c : After-piece-degrees) → let a = c.args in parts c.piece-degrees.result ≡ pieced a.d 4 ((0 ‥ a.most) []) (pieced 1 4 ((0 ‥ 1) []) (parts a.g))
degrees c = let a = c.args in c.piece-degrees.ensures ∙ ap (pieced a.d 4 ((0 ‥ a.most) [])) c.piece.ensures

pub returns-then-is_err : goal.returns-then-is_err
unfolding piecewise
returns-then-is_err c =
    let d = degrees (goal.at.returns-then-is_err c).After-piece-degrees in
    let g = parts c.piece-degrees.result in
    let n = refused_code c.piece-degrees.result.verdict (sym c.is_err.ensures.value ∙ c.if-is_err.true) in
    sym (ap hundredth (piece_stuck 6 4 ((0 ‥ 60) []) g n) ∙ piece_stuck 7 4 ((0 ‥ 99) []) g n) ∙ ap (λ g. hundredth (minute g)) d

pub returns-then-is_err-2 : goal.returns-then-is_err-2
unfolding piecewise
returns-then-is_err-2 c =
    let d = degrees (goal.at.returns-then-is_err-2 c).After-piece-degrees in
    let n = refused_code c.piece-minutes.result.verdict (sym c.is_err-2.ensures.value ∙ c.if-is_err-2.true) in
    sym (piece_stuck 7 4 ((0 ‥ 99) []) (parts c.piece-minutes.result) n) ∙ ap hundredth (c.piece-minutes.ensures ∙ ap minute d)

pub returns : goal.returns
unfolding piecewise
returns c =
    let d = degrees (goal.at.returns c).After-piece-degrees in
    c.piece-2.ensures ∙ ap hundredth (c.piece-minutes.ensures ∙ ap minute d)
