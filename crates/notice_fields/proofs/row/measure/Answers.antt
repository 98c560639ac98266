-- `measure` meets its contract: what the areas so far have, and where they end.
use Prim.Native.Nat.{◌+◌}
use mathlib.Core.Path.{◌≡◌, refl, sym, ap, ap₂, ◌∙◌}
use native.Mathlib.Omega.{arith}
use native.Mathlib.Numerals.{add-one}
use Rattle.notice_fields.specs.Standing.{front, area_wide, areas_end}
use Rattle.notice_fields.specs.Shapes.{shape_at, numbers_in, points_in}
use Rattle.notice_fields.specs.declared.row.Shape.{Shape}
use Rattle.notice_fields.specs.Laws.Shapes.{area_small, next_more}
use Rattle.walk.specs.Groups.{repeat_end, repeat_sum}
use Rattle.walk.specs.Laws.Stored.{sum_more}
use Rattle.notice_fields.proofs.row.measure.Goals as goal

pub loop-init : goal.loop-init
unfolding repeat_end repeat_sum
loop-init c = (refl, refl, refl, omega arith, omega arith, omega arith)

pub area_at-area-requires : goal.area_at-area-requires
area_at-area-requires c = omega arith

pub overflow_add-numbers : goal.overflow_add-numbers
overflow_add-numbers c =
    let a = c.args in
    let x = c.area_at-area.ensures in
    let (n, m, p) = area_small a.s.now c.loop.at in
    omega (arith, m, ap (λ (r : Shape). r.numbers) x)

pub overflow_add-points : goal.overflow_add-points
overflow_add-points c =
    let a = c.args in
    let x = c.area_at-area.ensures in
    let (n, m, p) = area_small a.s.now c.loop.at in
    omega (arith, p, ap (λ (r : Shape). r.points) x)

pub overflow_cast-at : goal.overflow_cast-at
overflow_cast-at c = let x = c.area_at-area.ensures in
    let (n, m, p) = area_small c.args.s.now c.loop.at in
    omega (arith, n, ap (λ (r : Shape). r.next) x)

pub loop-preserved : goal.loop-preserved
loop-preserved c =
    let a = c.args in
    let x = c.area_at-area.ensures in
    let s = a.s.now in
    let i = c.loop.counter in
    let v = c.loop.invariant in
    let (n, m, p) = area_small s c.loop.at in
    let numbers = ap (λ (r : Shape). r.numbers) x in
    let points = ap (λ (r : Shape). r.points) x in
    let next = ap (λ (r : Shape). r.next) x in
    let one = add-one i in (
      ap₂ ◌+◌ v.0 (numbers ∙ ap (λ p. (shape_at s p).numbers) v.2) ∙ sym (sum_more i (λ at. (shape_at s at).numbers) (area_wide s) front) ∙ ap (λ n. numbers_in s n front) (sym one),
      ap₂ ◌+◌ v.1 (points ∙ ap (λ p. (shape_at s p).points) v.2) ∙ sym (sum_more i (λ at. (shape_at s at).points) (area_wide s) front) ∙ ap (λ n. points_in s n front) (sym one),
      next ∙ ap (λ p. (shape_at s p).next) v.2 ∙ next_more s i front ∙ ap (λ n. areas_end s n front) (sym one),
      omega (arith, n, next),
      omega (arith, m, numbers),
      omega (arith, p, points),
    )

pub returns : goal.returns
returns c =
    let a = c.args in
    let e : c.loop.counter ≡ a.count = omega arith in
    let v = c.loop.invariant in
    λ y. record { numbers = (v.0 ∙ ap (λ n. numbers_in a.s.now n front) e) y; points = (v.1 ∙ ap (λ n. points_in a.s.now n front) e) y }
