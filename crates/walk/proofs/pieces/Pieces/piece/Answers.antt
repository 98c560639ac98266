-- `piece`: behind a refusal all stays; else the next part is there and within its limits, or is refused where it begins.
use Rattle.std.proofs.Common.{ℕ, cond, ◌&&◌, leb, [], sym, ap, ◌∙◌, eq-eqb}
use Rattle.format.specs.Refusals.{code_of}
use Rattle.format.specs.Laws.Outcomes.{refused_code, passed_code}
use Rattle.format.specs.Words.{◌‥◌}
use Rattle.walk.specs.Pieces.{parts, pieced}
use Rattle.walk.specs.Laws.Pieces.{piece_stuck}
use Rattle.walk.proofs.pieces.Pieces.piece.Goals as goal

pub returns-then-is_err : goal.returns-then-is_err
returns-then-is_err c =
    let a = c.args in
    sym (piece_stuck a.w 4 ((a.lo ‥ a.hi) []) (parts a.self) (refused_code a.self.verdict (sym c.is_err.ensures.value ∙ c.if-is_err.true)))

pub returns : goal.returns
unfolding pieced
returns c =
    let a = c.args in
    let clear = eq-eqb (code_of a.self.verdict) 0 (passed_code a.self.verdict (sym c.is_err.ensures.value ∙ c.if-is_err.false)) in
    let fault = c.inside.ensures ∙ ap (λ x. cond {A = ℕ} (leb a.lo x && leb x a.hi) 0 4) c.ahead-u.ensures in
    let answer = c.unless_cut.ensures ∙ ap (λ x. cond (leb a.w a.self.left) x 1) fault in
    rw clear (λ i. record { v = a.self.v; width = a.self.width; left = c.saturating_sub.ensures i; code = answer i; into = c.saturating_sub-2.ensures i })
