-- `measure` meets its contract: what the first i records have, and where they end.
use Prim.Native.Nat.{◌+◌}
use mathlib.Core.Path.{◌≡◌, refl, sym, ap, ap₂, ◌∙◌}
use native.Mathlib.Omega.{arith}
use native.Mathlib.Numerals.{add-one}
use Rattle.walk.specs.Groups.{repeat_end, repeat_sum}
use Rattle.walk.specs.Laws.Stored.{sum_more}
use Rattle.tide.specs.Shapes.{shape_at, numbers_in, entries_in}
use Rattle.tide.specs.Standing.{front, record_wide, records_end}
use Rattle.tide.specs.declared.row.Shape.{Shape}
use Rattle.tide.specs.Laws.Shapes.{record_small, next_more}
use Rattle.tide.proofs.row.measure.Goals as goal

pub loop-init : goal.loop-init
unfolding repeat_sum repeat_end
loop-init c = (refl, refl, refl, omega arith, omega arith, omega arith)

pub overflow_add-numbers : goal.overflow_add-numbers
overflow_add-numbers c =
    let (_, m, _, _) = record_small c.args.s.now c.loop.at in
    omega (arith, m, ap (λ (r : Shape). r.numbers) c.record_at-shape.ensures)

pub overflow_add-entries : goal.overflow_add-entries
overflow_add-entries c =
    let (_, _, e, _) = record_small c.args.s.now c.loop.at in
    omega (arith, e, ap (λ (r : Shape). r.entries) c.record_at-shape.ensures)

pub overflow_cast-at-in-loop : goal.overflow_cast-at-in-loop
overflow_cast-at-in-loop c =
    let (n, _, _, _) = record_small c.args.s.now c.loop.at in
    omega (arith, n, ap (λ (r : Shape). r.next) c.record_at-shape.ensures)

pub loop-preserved : goal.loop-preserved
loop-preserved c =
    let x = c.record_at-shape.ensures in
    let s = c.args.s.now in
    let i = c.loop.counter in
    let v = c.loop.invariant in
    let (n, m, e, _) = record_small s c.loop.at in
    let numbers = ap (λ (r : Shape). r.numbers) x in
    let entries = ap (λ (r : Shape). r.entries) x in
    let next = ap (λ (r : Shape). r.next) x in
    let one = add-one i in (
      ap₂ ◌+◌ v.0 (numbers ∙ ap (λ p. (shape_at s p).numbers) v.2) ∙ sym (sum_more i (λ at. (shape_at s at).numbers) (record_wide s) front) ∙ ap (λ n. numbers_in s n front) (sym one),
      ap₂ ◌+◌ v.1 (entries ∙ ap (λ p. (shape_at s p).entries) v.2) ∙ sym (sum_more i (λ at. (shape_at s at).entries) (record_wide s) front) ∙ ap (λ n. entries_in s n front) (sym one),
      next ∙ ap (λ p. (shape_at s p).next) v.2 ∙ next_more s i front ∙ ap (λ n. records_end s n front) (sym one),
      omega (arith, n, next),
      omega (arith, m, numbers),
      omega (arith, e, entries),
    )

pub returns : goal.returns
returns c =
    let a = c.args in
    let e : c.loop.counter ≡ a.count = omega arith in
    let v = c.loop.invariant in
    λ y. record { numbers = (v.0 ∙ ap (λ n. numbers_in a.s.now n front) e) y; entries = (v.1 ∙ ap (λ n. entries_in a.s.now n front) e) y }
