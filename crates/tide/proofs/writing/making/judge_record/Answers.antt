-- `judge_record` judges the position type, the position, the mark, the count and the entries; a refused count ends it.
use Prim.Native.Nat.{◌+◌, ◌*◌, ◌≤◌}
use mathlib.Core.Path.{sym, ap, ◌∙◌, subst⁻¹}
use mathlib.Core.Bool.{cond}
use native.Mathlib.Omega.{arith}
use Rattle.std.proofs.Common.{eqb-true}
use Rattle.notice_fields.specs.Laws.Verdicts.{refused, passed}
use Rattle.walk.specs.Judging.{valued}
use Rattle.walk.specs.Rows.{even_step}
use Rattle.walk.specs.Laws.Judging.{valued_between}
use Rattle.walk.specs.Walk.{Stepped, Walk, seen, stepped}
use Rattle.tide.specs.Making.{entry_judged}
use Rattle.tide.specs.Laws.Judging.{record_turn, place_small}
use Rattle.tide.proofs.writing.making.judge_record.Goals.{After-judge_place-place, Else-is_err}
use Rattle.tide.proofs.writing.making.judge_record.Goals as goal

-- the position has two numbers at most, and a count that is not refused is one of nine bits
few : (c : After-judge_place-place) → c.judge_place-place.result.next ≤ c.args.k + 1 + 2
few c =
    let a = c.args in
    subst⁻¹ (λ (p : Stepped). p.next ≤ a.k + 1 + 2) c.judge_place-place.ensures (place_small a.row.now c.entry-kind.result (a.k + 1) (seen c.value.result))

counted : (c : Else-is_err) → c.entry-n.result ≤ 511
counted c = (valued_between (seen c.value-mark.result) 9 c.entry-n.result _ 511 c.value-c.ensures (eqb-true _ 0 (passed c.value-c.result (sym c.is_err.ensures.value ∙ c.if-is_err.false)))).1

pub overflow_add-next : goal.overflow_add-next
overflow_add-next c = omega (arith, few (goal.at.overflow_add-next c).After-judge_place-place)

pub overflow_add-first : goal.overflow_add-first
overflow_add-first c = omega (arith, few (goal.at.overflow_add-first c).After-judge_place-place)

pub overflow_add-first-2 : goal.overflow_add-first-2
overflow_add-first-2 c = omega (arith, few (goal.at.overflow_add-first-2 c).After-judge_place-place)

-- before `returns`: a build that lets a count of 0 pass is wrong here, and there it is not
pub returns : goal.returns
returns c =
    let a = c.args in
    let row = a.row.now in
    let place = stepped c.judge_place-place.result in
    let n = c.entry-n.result in
    let w = seen c.value-c.result in
    let first = place.next + 1 + 1 in
    let mark = c.value-mark.ensures ∙ ap (λ n. valued 1 n 0 1 place.walk) c.entry.ensures in
    sym (record_turn row a.k (seen a.from) c.entry-kind.ensures c.value.ensures c.judge_place-place.ensures mark c.entry-n.ensures c.value-c.ensures
    ∙ ap (λ b. cond b (even_step 3 n (entry_judged row) first w) (record { walk = w; next = first })) (passed c.value-c.result (sym c.is_err.ensures.value ∙ c.if-is_err.false))
    ∙ ap (λ (w : Walk). record { walk = w; next = first + n * 3 }) (sym c.judge_entries-walk.ensures))

pub returns-then-is_err : goal.returns-then-is_err
returns-then-is_err c =
    let a = c.args in
    let row = a.row.now in
    let place = stepped c.judge_place-place.result in
    let n = c.entry-n.result in
    let w = seen c.value-c.result in
    let first = place.next + 1 + 1 in
    let mark = c.value-mark.ensures ∙ ap (λ n. valued 1 n 0 1 place.walk) c.entry.ensures in
    sym (record_turn row a.k (seen a.from) c.entry-kind.ensures c.value.ensures c.judge_place-place.ensures mark c.entry-n.ensures c.value-c.ensures
    ∙ ap (λ b. cond b (even_step 3 n (entry_judged row) first w) (record { walk = w; next = first })) (refused c.value-c.result (sym c.is_err.ensures.value ∙ c.if-is_err.true)))

pub judge_entries-walk-requires : goal.judge_entries-walk-requires
judge_entries-walk-requires c = (counted (goal.at.judge_entries-walk-requires c).Else-is_err, omega (arith, few (goal.at.judge_entries-walk-requires c).After-judge_place-place))

pub overflow_mul-result : goal.overflow_mul-result
overflow_mul-result c = omega (arith, counted (goal.at.overflow_mul-result c).Else-is_err)

pub overflow_add-result : goal.overflow_add-result
overflow_add-result c = omega (arith, few (goal.at.overflow_add-result c).After-judge_place-place, counted (goal.at.overflow_add-result c).Else-is_err)
