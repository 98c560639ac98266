-- `judge` meets its contract: what is left to judge behind the areas so far is what there was to judge; a refused one leaves nothing.
use Prim.Native.Nat.{◌+◌, ◌-◌}
use mathlib.Core.Path.{◌≡◌, sym, ap, ap₂, ◌∙◌}
use mathlib.Core.Bool.{cond}
use native.Mathlib.Omega.{arith}
use Rattle.notice_fields.specs.Making.{area_judged, areas_judged}
use Rattle.notice_fields.specs.Laws.Judging.{area_small}
use Rattle.notice_fields.specs.Laws.Verdicts.{refused, passed}
use Rattle.walk.specs.Rows.{repeat_judged}
use Rattle.walk.specs.Walk.{seen, stepped}
use Rattle.walk.specs.Laws.RowsJudged.{repeat_judged_turn}
use Rattle.notice_fields.proofs.making.judge.Goals as goal

pub loop-init : goal.loop-init
loop-init c =
    let a = c.args in
    let m : a.count ≡ a.count - 0 = omega arith in
    (ap₂ (λ m w. areas_judged a.row.now m 0 w) m (sym c.fresh-w.ensures), omega arith)

pub loop-preserved : goal.loop-preserved
loop-preserved c =
    let a = c.args in
    let r = stepped c.judge_area-area.result in
    let n = a.count - (c.loop.counter + 1) in (
      c.loop.invariant.0 ∙ repeat_judged_turn (area_judged a.row.now) n c.loop.k (seen c.loop.w) (omega arith) c.judge_area-area.ensures
          ∙ ap (λ b. cond b (areas_judged a.row.now n r.next r.walk) r) (passed c.judge_area-area.result.walk (sym c.is_err.ensures.value ∙ c.if-is_err.false)),
      omega (arith, area_small a.row.now c.loop.k (seen c.loop.w) c.judge_area-area.ensures),
    )

pub returns-after-loop : goal.returns-after-loop
unfolding repeat_judged
returns-after-loop c =
    let a = c.args in
    let none : a.count - c.loop.counter ≡ 0 = omega arith in
    sym (c.loop.invariant.0 ∙ ap (λ m. areas_judged a.row.now m c.loop.k (seen c.loop.w)) none)

pub returns-then-is_err : goal.returns-then-is_err
returns-then-is_err c =
    let a = c.args in
    let r = stepped c.judge_area-area.result in
    let n = a.count - (c.loop.counter + 1) in
    sym (c.loop.invariant.0 ∙ repeat_judged_turn (area_judged a.row.now) n c.loop.k (seen c.loop.w) (omega arith) c.judge_area-area.ensures
    ∙ ap (λ b. cond b (areas_judged a.row.now n r.next r.walk) r) (refused c.judge_area-area.result.walk (sym c.is_err.ensures.value ∙ c.if-is_err.true)))
