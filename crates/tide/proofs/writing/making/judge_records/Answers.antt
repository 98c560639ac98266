-- `judge_records` meets its contract: what is left to judge behind i records is what there was to judge; a refused one leaves nothing.
use Prim.Native.Nat.{◌+◌, ◌-◌}
use mathlib.Core.Path.{◌≡◌, sym, ap, ◌∙◌}
use mathlib.Core.Bool.{cond}
use native.Mathlib.Omega.{arith}
use Rattle.walk.specs.Walk.{seen, stepped}
use Rattle.notice_fields.specs.Laws.Verdicts.{refused, passed}
use Rattle.walk.specs.Rows.{repeat_judged}
use Rattle.walk.specs.Laws.RowsJudged.{repeat_judged_turn}
use Rattle.tide.specs.Making.{record_judged, records_judged}
use Rattle.tide.specs.Laws.Judging.{record_small}
use Rattle.tide.proofs.writing.making.judge_records.Goals as goal

pub loop-init : goal.loop-init
loop-init c =
    let a = c.args in
    let m : a.count ≡ a.count - 0 = omega arith in
    (ap (λ m. records_judged a.row.now m 0 (seen a.from)) m, omega arith)

pub loop-preserved : goal.loop-preserved
loop-preserved c =
    let a = c.args in
    let row = a.row.now in
    let r = stepped c.judge_record-record.result in
    let n = a.count - (c.loop.counter + 1) in (
      c.loop.invariant.0 ∙ repeat_judged_turn (record_judged row) n c.loop.k (seen c.loop.w) (omega arith) c.judge_record-record.ensures
          ∙ ap (λ b. cond b (records_judged row n r.next r.walk) r) (passed c.judge_record-record.result.walk (sym c.is_err.ensures.value ∙ c.if-is_err.false)),
      omega (arith, record_small row c.loop.k (seen c.loop.w) c.judge_record-record.ensures),
    )

pub returns-after-loop : goal.returns-after-loop
unfolding repeat_judged
returns-after-loop c =
    let a = c.args in
    let none : a.count - c.loop.counter ≡ 0 = omega arith in
    sym (c.loop.invariant.0 ∙ ap (λ m. records_judged a.row.now m c.loop.k (seen c.loop.w)) none)

pub returns-then-is_err : goal.returns-then-is_err
returns-then-is_err c =
    let a = c.args in
    let row = a.row.now in
    let r = stepped c.judge_record-record.result in
    let n = a.count - (c.loop.counter + 1) in
    sym (c.loop.invariant.0 ∙ repeat_judged_turn (record_judged row) n c.loop.k (seen c.loop.w) (omega arith) c.judge_record-record.ensures
    ∙ ap (λ b. cond b (records_judged row n r.next r.walk) r) (refused c.judge_record-record.result.walk (sym c.is_err.ensures.value ∙ c.if-is_err.true)))
