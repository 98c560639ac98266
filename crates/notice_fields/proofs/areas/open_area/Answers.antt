-- `open_area` meets its contract: by the number of the kind, as `kind_of` goes.
use mathlib.Core.Path.{◌≡◌, sym, ap, ◌∙◌}
use mathlib.Core.Bool.{false}
use Rattle.walk.specs.Reading.{ranged}
use Rattle.walk.specs.Walk.{Walk, seen}
use Rattle.notice_fields.specs.Areas.{least_of}
use Rattle.notice_fields.specs.Steps.{opened_as}
use Rattle.notice_fields.specs.Laws.Kinds.{kind_sea, kind_circle, kind_several}
use Rattle.notice_fields.proofs.areas.open_area.Goals as goal

pub returns-then-k-eq-SEA : goal.returns-then-k-eq-SEA
unfolding opened_as
returns-then-k-eq-SEA c =
    let a = c.args in
    ap (λ r. record { walk = r; points = 0 }) c.num-walk.ensures.0 ∙ ap (λ k. opened_as k a.s.now (seen a.kind)) (sym (kind_sea c.if-k-eq-SEA.true))

pub returns-then-k-eq-CIRCLE : goal.returns-then-k-eq-CIRCLE
unfolding opened_as
returns-then-k-eq-CIRCLE c =
    let a = c.args in
    ap (λ k. opened_as k a.s.now (seen a.kind)) (sym (kind_circle c.if-k-eq-CIRCLE.true))

pub returns : goal.returns
unfolding opened_as
returns c =
    let a = c.args in
    let is : seen c.decide-walk.result ≡ ranged a.s.now 4 false (least_of a.kind.v) 15 4 (seen a.kind) = c.decide-walk.ensures.0 ∙ ap (λ l. ranged a.s.now 4 false l 15 4 (seen a.kind)) c.least.ensures in
    ap (λ (r : Walk). record { walk = r; points = r.v }) is ∙ ap (λ k. opened_as k a.s.now (seen a.kind)) (sym (kind_several c.if-k-eq-SEA.false c.if-k-eq-CIRCLE.false))
