-- `judge_area` meets its contract: by the number of the kind, as `kind_of` goes.
use Prim.Native.Nat.{◌+◌, ◌*◌}
use mathlib.Core.Path.{sym, ap, ap₂, ◌∙◌}
use Rattle.std.specs.Prelude.{ℕ, ◌≡◌, ◌≤◌, cond, false, is_err}
use Rattle.std.proofs.Common.{eqb-true}
use native.Mathlib.Omega.{arith}
use Rattle.walk.specs.Judging.{valued}
use Rattle.walk.specs.Laws.Judging.{valued_between}
use Rattle.walk.specs.declared.walk.Walk.{Walk as Declared}
use Rattle.walk.specs.Walk.{Walk, seen}
use Rattle.notice_fields.specs.Areas.{least_of}
use Rattle.notice_fields.specs.Laws.Kinds.{kind_sea, kind_circle, kind_several}
use Rattle.notice_fields.specs.Making.{points_judged}
use Rattle.notice_fields.specs.Laws.Verdicts.{refused, passed}
use Rattle.notice_fields.specs.Laws.Judging.{sea_turn, circle_turn, several_turn}
use Rattle.notice_fields.proofs.making.judge_area.Goals.{After-judge_points-p}
use Rattle.notice_fields.proofs.making.judge_area.Goals as goal

-- no more points are counted than may be
few_points : (w c : Declared) (n least : ℕ) → seen c ≡ valued 4 n least 15 (seen w) → is_err c.verdict ≡ false → n ≤ 15
few_points w c n least e h = (valued_between (seen w) 4 n least 15 e (eqb-true (seen c).code 0 (passed c h))).1

pub returns-then-kind-eq-SEA : goal.returns-then-kind-eq-SEA
returns-then-kind-eq-SEA c =
    let a = c.args in
    ap (λ (w : Walk). record { walk = w; next = a.k + 2 }) (c.value-walk.ensures ∙ ap (λ n. valued 8 n 0 255 (seen c.value-w.result)) c.entry.ensures)
    ∙ sym (sea_turn a.row.now a.k (seen a.from) c.entry-kind.ensures c.value-w.ensures (kind_sea c.if-kind-eq-SEA.true))

pub judge_points-p-requires : goal.judge_points-p-requires
judge_points-p-requires c =
    let a = c.args in
    (omega arith, omega arith)

pub overflow_add-result-then-kind-eq-CIRCLE : goal.overflow_add-result-then-kind-eq-CIRCLE
overflow_add-result-then-kind-eq-CIRCLE c = omega (arith, c.requires)

pub returns-then-kind-eq-CIRCLE : goal.returns-then-kind-eq-CIRCLE
returns-then-kind-eq-CIRCLE c =
    let p = (goal.at.returns-then-kind-eq-CIRCLE c).After-judge_points-p in
    let a = c.args in
    let radius = c.value-q.ensures ∙ ap₂ (λ n p. valued 10 n 0 1_023 p) c.entry-then-kind-eq-CIRCLE.ensures c.judge_points-p.ensures in
    ap (λ (w : Walk). record { walk = w; next = a.k + 5 }) (c.value-walk-then-kind-eq-CIRCLE.ensures ∙ ap₂ (λ n q. valued 2 n 0 3 q) c.entry-then-kind-eq-CIRCLE-2.ensures radius)
    ∙ sym (circle_turn a.row.now a.k (seen a.from) c.entry-kind.ensures c.value-w.ensures (kind_circle c.if-kind-eq-CIRCLE.true))

pub returns-then-is_err : goal.returns-then-is_err
returns-then-is_err c =
    let a = c.args in
    let n = c.entry-n.result in
    let r = seen c.value-c.result in
    let counted = c.value-c.ensures ∙ ap (λ l. valued 4 n l 15 (seen c.value-w.result)) c.least.ensures in
    sym (several_turn a.row.now a.k (seen a.from) c.entry-kind.ensures c.value-w.ensures (least_of c.entry-kind.result) (kind_several c.if-kind-eq-SEA.false c.if-kind-eq-CIRCLE.false) c.entry-n.ensures counted
    ∙ ap (λ b. cond b (record { walk = points_judged a.row.now n (a.k + 2) r; next = a.k + 2 + n * 2 }) (record { walk = r; next = a.k + 2 })) (refused c.value-c.result (sym c.is_err.ensures.value ∙ c.if-is_err.true)))

pub judge_points-walk-requires : goal.judge_points-walk-requires
judge_points-walk-requires c =
    let a = c.args in
    let few = few_points c.value-w.result c.value-c.result c.entry-n.result c.least.result c.value-c.ensures (sym c.is_err.ensures.value ∙ c.if-is_err.false) in
    (few, omega arith)

pub overflow_mul-result : goal.overflow_mul-result
overflow_mul-result c =
    omega (arith, few_points c.value-w.result c.value-c.result c.entry-n.result c.least.result c.value-c.ensures (sym c.is_err.ensures.value ∙ c.if-is_err.false))

pub overflow_add-result-2 : goal.overflow_add-result-2
overflow_add-result-2 c =
    omega (arith, few_points c.value-w.result c.value-c.result c.entry-n.result c.least.result c.value-c.ensures (sym c.is_err.ensures.value ∙ c.if-is_err.false))

pub returns : goal.returns
returns c =
    let a = c.args in
    let n = c.entry-n.result in
    let r = seen c.value-c.result in
    let counted = c.value-c.ensures ∙ ap (λ l. valued 4 n l 15 (seen c.value-w.result)) c.least.ensures in
    sym (several_turn a.row.now a.k (seen a.from) c.entry-kind.ensures c.value-w.ensures (least_of c.entry-kind.result) (kind_several c.if-kind-eq-SEA.false c.if-kind-eq-CIRCLE.false) c.entry-n.ensures counted
    ∙ ap (λ b. cond b (record { walk = points_judged a.row.now n (a.k + 2) r; next = a.k + 2 + n * 2 }) (record { walk = r; next = a.k + 2 })) (passed c.value-c.result (sym c.is_err.ensures.value ∙ c.if-is_err.false))
    ∙ ap (λ (w : Walk). record { walk = w; next = a.k + 2 + n * 2 }) (sym c.judge_points-walk.ensures))
