-- `walk` meets its contract: what is left to do from the areas and points that are passed is what there was to do; the first bad point leaves nothing.
use Prim.Native.Nat.{◌+◌, ◌-◌}
use mathlib.Core.Path.{◌≡◌, sym, ap, ◌∙◌}
use mathlib.Core.Bool.{cond}
use native.Mathlib.Omega.{arith}
use Rattle.walk.specs.Groups.{repeat_walked}
use Rattle.walk.specs.Walk.{seen}
use Rattle.notice_fields.specs.Steps.{point_step, areas_walked}
use Rattle.notice_fields.specs.Laws.Verdicts.{refused, passed}
use Rattle.notice_fields.specs.Laws.Walking.{point_turn, area_turn}
use Rattle.notice_fields.proofs.areas.walk.Invariants.{next}
use Rattle.notice_fields.proofs.areas.walk.Goals as goal

pub areas-init : goal.areas-init
areas-init c = let a = c.args in let e : a.count ≡ a.count - 0 = omega arith in ap (λ n. areas_walked a.s.now n (seen a.from)) e

pub points-init : goal.points-init
points-init c =
    let a = c.args in
    let n = c.open_area-area.result.points in
    let e : n ≡ n - 0 = omega arith in
    ap (λ m. repeat_walked m (point_step a.s.now) (next a.s.now a.count c.areas.counter c.decide-kind.result.v) (seen c.open_area-area.result.walk)) e

pub points-preserved : goal.points-preserved
points-preserved c =
    let a = c.args in
    let s = a.s.now in
    let on = next s a.count c.areas.counter c.decide-kind.result.v in
    let n = c.open_area-area.result.points - (c.points.counter + 1) in
    let w = seen c.longitude-w.result in
    c.points.invariant ∙ point_turn s on n (seen c.points.w) (omega arith) c.latitude-latitude.ensures.0 c.longitude-w.ensures.0
    ∙ ap (λ b. cond b (repeat_walked n (point_step s) on w) w) (passed c.longitude-w.result (sym c.is_err.ensures.value ∙ c.if-is_err.false))

pub areas-preserved : goal.areas-preserved
unfolding repeat_walked
areas-preserved c =
    let a = c.args in
    let s = a.s.now in
    let n = a.count - (c.areas.counter + 1) in
    let none : c.open_area-area.result.points - c.points.counter ≡ 0 = omega arith in
    c.areas.invariant ∙ area_turn s n {m = a.count - c.areas.counter} (seen c.areas.w) (omega arith) c.decide-kind.ensures.0 c.open_area-area.ensures ∙ c.points.invariant
    ∙ ap (λ m. repeat_walked m (point_step s) (next s a.count c.areas.counter c.decide-kind.result.v) (seen c.points.w)) none ∙ ap (areas_walked s n) (sym c.close_area-w.ensures)

pub returns-after-areas : goal.returns-after-areas
unfolding repeat_walked
returns-after-areas c =
    let a = c.args in
    let e : a.count - c.areas.counter ≡ 0 = omega arith in
    sym (c.areas.invariant ∙ ap (λ n. areas_walked a.s.now n (seen c.areas.w)) e)

pub returns-then-is_err : goal.returns-then-is_err
returns-then-is_err c =
    let a = c.args in
    let s = a.s.now in
    let on = next s a.count c.areas.counter c.decide-kind.result.v in
    let n = c.open_area-area.result.points - (c.points.counter + 1) in
    let w = seen c.longitude-w.result in
    sym (c.areas.invariant ∙ area_turn s (a.count - (c.areas.counter + 1)) {m = a.count - c.areas.counter} (seen c.areas.w) (omega arith) c.decide-kind.ensures.0 c.open_area-area.ensures ∙ c.points.invariant
    ∙ point_turn s on n (seen c.points.w) (omega arith) c.latitude-latitude.ensures.0 c.longitude-w.ensures.0
    ∙ ap (λ b. cond b (repeat_walked n (point_step s) on w) w) (refused c.longitude-w.result (sym c.is_err.ensures.value ∙ c.if-is_err.true)))
