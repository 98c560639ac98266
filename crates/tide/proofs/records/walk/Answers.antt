-- `walk` meets its contract: what is left to do from the records and entries that are passed is what there was to do; a refusal leaves nothing.
use Prim.Native.Nat.{◌+◌, ◌-◌}
use mathlib.Core.Path.{◌≡◌, sym, ap, ◌∙◌}
use mathlib.Core.Bool.{cond}
use native.Mathlib.Omega.{arith}
use Rattle.std.proofs.Common.{eqb-true}
use Rattle.walk.specs.Walk.{seen}
use Rattle.notice_fields.specs.Laws.Verdicts.{refused, passed}
use Rattle.walk.specs.Groups.{repeat_walked}
use Rattle.tide.specs.Steps.{entry_step, records_walked}
use Rattle.tide.specs.Laws.Turns.{record_turn}
use Rattle.tide.proofs.records.walk.Invariants.{next}
use Rattle.tide.proofs.records.walk.Goals as goal

pub records-init : goal.records-init
records-init c = let a = c.args in let e : a.count ≡ a.count - 0 = omega arith in ap (λ n. records_walked a.s.now n (seen a.from)) e

pub entries-init : goal.entries-init
entries-init c =
    let a = c.args in
    let n = c.open_record-w.result.v in
    let e : n ≡ n - 0 = omega arith in
    (omega arith, ap (λ m. repeat_walked m (entry_step a.s.now) (next a.s.now a.count c.records.counter) (seen c.open_record-w.result)) e, eqb-true _ 0 (passed c.open_record-w.result (sym c.is_err.ensures.value ∙ c.if-is_err.false)))

pub overflow_add-j : goal.overflow_add-j
overflow_add-j c =
    omega (arith, c.pass-run.ensures.1, c.open_record-w.type_inv)

pub entries-smaller : goal.entries-smaller
entries-smaller c = omega (arith, c.pass-run.ensures.0, c.pass-run.ensures.1)

pub entries-preserved : goal.entries-preserved
entries-preserved c =
    let a = c.args in
    let s = a.s.now in
    let on = next s a.count c.records.counter in
    let n = c.open_record-w.result.v - c.entries.j in
    let x = c.pass-run.result in
    let w = seen x.walk in
    let clear = passed x.walk (sym c.is_err-in-entries.ensures.value ∙ c.if-is_err-2.false) in
    let (some, few, so) = c.pass-run.ensures in
    let left : n - x.count ≡ c.open_record-w.result.v - (c.entries.j + x.count) = omega (arith, few) in
    (omega (arith, few), c.entries.invariant.1 ∙ so on ∙ ap (λ b. cond b (repeat_walked (n - x.count) (entry_step s) on w) w) clear ∙ ap (λ n. repeat_walked n (entry_step s) on w) left, eqb-true _ 0 clear)

pub records-preserved : goal.records-preserved
unfolding repeat_walked
records-preserved c =
    let a = c.args in
    let s = a.s.now in
    let n = a.count - (c.records.counter + 1) in
    let w = seen c.open_record-w.result in
    let none : w.v - c.entries.j ≡ 0 = omega arith in
    c.records.invariant ∙ record_turn s n {m = a.count - c.records.counter} (seen c.records.w) (omega arith) c.open_record-w.ensures
    ∙ ap (λ b. cond b (repeat_walked w.v (entry_step s) (records_walked s n) w) w) (passed c.open_record-w.result (sym c.is_err.ensures.value ∙ c.if-is_err.false))
    ∙ c.entries.invariant.1 ∙ ap (λ m. repeat_walked m (entry_step s) (records_walked s n) (seen c.entries.w)) none

pub returns-after-records : goal.returns-after-records
unfolding repeat_walked
returns-after-records c =
    let a = c.args in
    let none : a.count - c.records.counter ≡ 0 = omega arith in
    sym (c.records.invariant ∙ ap (λ m. records_walked a.s.now m (seen c.records.w)) none)

pub returns-then-is_err : goal.returns-then-is_err
returns-then-is_err c =
    let a = c.args in
    let s = a.s.now in
    let n = a.count - (c.records.counter + 1) in
    let w = seen c.open_record-w.result in
    sym (c.records.invariant ∙ record_turn s n (seen c.records.w) (omega arith) c.open_record-w.ensures
    ∙ ap (λ b. cond b (repeat_walked w.v (entry_step s) (records_walked s n) w) w) (refused c.open_record-w.result (sym c.is_err.ensures.value ∙ c.if-is_err.true)))

pub returns-then-is_err-2 : goal.returns-then-is_err-2
returns-then-is_err-2 c =
    let a = c.args in
    let s = a.s.now in
    let m = a.count - (c.records.counter + 1) in
    let on = records_walked s m in
    let u = seen c.open_record-w.result in
    let n = u.v - c.entries.j in
    let x = c.pass-run.result in
    let w = seen x.walk in
    sym (c.records.invariant ∙ record_turn s m (seen c.records.w) (omega arith) c.open_record-w.ensures
    ∙ ap (λ b. cond b (repeat_walked u.v (entry_step s) on u) u) (passed c.open_record-w.result (sym c.is_err.ensures.value ∙ c.if-is_err.false))
    ∙ c.entries.invariant.1 ∙ c.pass-run.ensures.2 on ∙ ap (λ b. cond b (repeat_walked (n - x.count) (entry_step s) on w) w) (refused x.walk (sym c.is_err-in-entries.ensures.value ∙ c.if-is_err-2.true)))
