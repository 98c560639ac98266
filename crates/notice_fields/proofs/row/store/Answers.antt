-- `store` meets its contract: the numbers of the areas so far stand in the row.
use Prim.Native.Nat.{◌+◌}
use mathlib.Core.Path.{◌≡◌, refl, sym, ap, ap₂, ◌∙◌}
use native.Mathlib.Omega.{arith}
use native.Mathlib.Numerals.{add-one}
use native.Mathlib.Nat.{zero-add}
use lib.ListN.{length}
use lib.Seq.{sets}
use Rattle.notice_fields.specs.Standing.{front, area_wide, area_at, areas_at, areas_end}
use Rattle.notice_fields.specs.Shapes.{shape_at, numbers_in}
use Rattle.notice_fields.specs.declared.row.Shape.{Shape}
use Rattle.notice_fields.specs.Laws.Shapes.{area_small, numbers_in_lem, next_more}
use Rattle.walk.specs.Groups.{repeat_at, repeat_end}
use Rattle.walk.specs.Laws.Stored.{sum_more, item_within, stored_turn}
use Rattle.notice_fields.proofs.row.store.Goals as goal

pub loop-init : goal.loop-init
unfolding repeat_end repeat_at
loop-init c = (refl, omega arith, refl, refl)

pub area_at-area-requires : goal.area_at-area-requires
area_at-area-requires c = omega arith

pub overflow_cast-at : goal.overflow_cast-at
overflow_cast-at c = omega arith

pub fill_area-requires : goal.fill_area-requires
fill_area-requires c =
    let a = c.args in
    let v = c.loop.invariant in
    let w = item_within c.loop.counter a.count (area_at a.s.now) (area_wide a.s.now) front (omega arith) in
    let here = ap (λ p. length (area_at a.s.now p)) v.0 in
    (omega arith, omega (arith, w, here))

pub overflow_add-k : goal.overflow_add-k
overflow_add-k c =
    let a = c.args in
    let w = item_within c.loop.counter a.count (area_at a.s.now) (area_wide a.s.now) front (omega arith) in
    let (_, m, _) = area_small a.s.now c.loop.at in
    let k = c.loop.invariant.2 in
    let all = numbers_in_lem a.s.now c.loop.counter front in
    omega (arith, m, ap (λ (r : Shape). r.numbers) c.area_at-area.ensures, w, k)

pub overflow_cast-at-in-loop : goal.overflow_cast-at-in-loop
overflow_cast-at-in-loop c = let (n, _, _) = area_small c.args.s.now c.loop.at in
    omega (arith, n, ap (λ (r : Shape). r.next) c.area_at-area.ensures)

pub loop-preserved : goal.loop-preserved
loop-preserved c =
    let a = c.args in
    let s = a.s.now in
    let i = c.loop.counter in
    let v = c.loop.invariant in
    let x = c.area_at-area.ensures in
    let next = ap (λ (r : Shape). r.next) x in
    let numbers = ap (λ (r : Shape). r.numbers) x in
    let (n, _, _) = area_small s c.loop.at in
    let one = add-one i in
    let here : c.loop.k ≡ 0 + length (areas_at s i front) = v.2 ∙ sym (zero-add (length (areas_at s i front))) in (
      next ∙ ap (λ p. (shape_at s p).next) v.0 ∙ next_more s i front ∙ ap (λ n. areas_end s n front) (sym one),
      omega (arith, n, next),
      ap₂ ◌+◌ (v.2 ∙ sym (numbers_in_lem s i front)) (numbers ∙ ap (λ p. (shape_at s p).numbers) v.0) ∙ sym (sum_more i (λ at. (shape_at s at).numbers) (area_wide s) front) ∙ ap (λ n. numbers_in s n front) (sym one) ∙ numbers_in_lem s (i + 1) front,
      stored_turn a.row.now 0 (area_at s) (area_wide s) front i c.loop.k refl here v.3 (c.fill_area.ensures ∙ ap (λ p. sets c.loop.row c.loop.k (area_at s p)) v.0),
    )

pub returns : goal.returns
returns c =
    let a = c.args in
    let e : c.loop.counter ≡ a.count = omega arith in
    c.loop.invariant.3 ∙ ap (λ n. sets a.row.now 0 (areas_at a.s.now n front)) e
