-- `close_area` meets its contract: a circle has two numbers behind its point.
use mathlib.Core.Path.{sym, ap, ◌∙◌}
use mathlib.Core.Bool.{true}
use Rattle.walk.specs.Reading.{ranged}
use Rattle.walk.specs.Walk.{seen}
use Rattle.notice_fields.specs.Steps.{closed_as}
use Rattle.notice_fields.specs.Laws.Kinds.{kind_circle, closed_plain}
use Rattle.notice_fields.proofs.areas.close_area.Goals as goal

pub returns-then-kind-eq-CIRCLE : goal.returns-then-kind-eq-CIRCLE
unfolding closed_as
returns-then-kind-eq-CIRCLE c =
    let a = c.args in
    c.num-then-kind-eq-CIRCLE.ensures.0 ∙ ap (λ r. ranged a.s.now 2 true 0 3 4 r) c.num.ensures.0
    ∙ ap (λ k. closed_as k a.s.now (seen a.w)) (sym (kind_circle c.if-kind-eq-CIRCLE.true))

pub returns : goal.returns
returns c =
    let a = c.args in
    closed_plain a.kind a.s.now (seen a.w) c.if-kind-eq-CIRCLE.false
