-- `store` meets its contract: the numbers of the first i records stand in the row.
use Prim.Native.Nat.{◌+◌}
use mathlib.Core.Path.{◌≡◌, refl, sym, ap, ap₂, ◌∙◌}
use native.Mathlib.Omega.{arith}
use native.Mathlib.Nat.{zero-add}
use native.Mathlib.Numerals.{add-one}
use lib.ListN.{length}
use lib.Seq.{sets}
use Rattle.walk.specs.Groups.{repeat_at, repeat_end}
use Rattle.walk.specs.Laws.Stored.{sum_more, item_within, stored_turn}
use Rattle.tide.specs.Shapes.{shape_at, numbers_in}
use Rattle.tide.specs.Standing.{front, record_at, record_wide, records_at, records_end}
use Rattle.tide.specs.declared.row.Shape.{Shape}
use Rattle.tide.specs.Laws.Shapes.{record_small, numbers_in_lem, next_more}
use Rattle.tide.proofs.row.store.Goals as goal

pub loop-init : goal.loop-init
unfolding repeat_at repeat_end
loop-init c = (refl, omega arith, refl, omega arith, refl)

pub fill_record-requires : goal.fill_record-requires
fill_record-requires c =
    let a = c.args in
    let v = c.loop.invariant in
    let w = item_within c.loop.counter a.count (record_at a.s.now) (record_wide a.s.now) front (omega arith) in
    let here = ap (λ p. length (record_at a.s.now p)) v.0 in
    (omega arith, omega arith, omega (arith, w, here))

pub overflow_add-k : goal.overflow_add-k
overflow_add-k c =
    let a = c.args in
    let w = item_within c.loop.counter a.count (record_at a.s.now) (record_wide a.s.now) front (omega arith) in
    let (_, m, _, _) = record_small a.s.now c.loop.at in
    omega (arith, m, ap (λ (r : Shape). r.numbers) c.record_at-shape.ensures, w, c.loop.invariant.2)

pub overflow_cast-at-in-loop-2 : goal.overflow_cast-at-in-loop-2
overflow_cast-at-in-loop-2 c =
    let (n, _, _, _) = record_small c.args.s.now c.loop.at in
    omega (arith, n, ap (λ (r : Shape). r.next) c.record_at-shape.ensures)

pub loop-preserved : goal.loop-preserved
loop-preserved c =
    let a = c.args in
    let s = a.s.now in
    let i = c.loop.counter in
    let v = c.loop.invariant in
    let x = c.record_at-shape.ensures in
    let next = ap (λ (r : Shape). r.next) x in
    let numbers = ap (λ (r : Shape). r.numbers) x in
    let (n, m, _, _) = record_small s c.loop.at in
    let one = add-one i in
    let here : c.loop.k ≡ 0 + length (records_at s i front) = v.2 ∙ sym (zero-add (length (records_at s i front))) in (
      next ∙ ap (λ p. (shape_at s p).next) v.0 ∙ next_more s i front ∙ ap (λ n. records_end s n front) (sym one),
      omega (arith, n, next),
      ap₂ ◌+◌ (v.2 ∙ sym (numbers_in_lem s i front)) (numbers ∙ ap (λ p. (shape_at s p).numbers) v.0) ∙ sym (sum_more i (λ at. (shape_at s at).numbers) (record_wide s) front) ∙ ap (λ n. numbers_in s n front) (sym one) ∙ numbers_in_lem s (i + 1) front,
      omega (arith, m, numbers),
      stored_turn a.row.now 0 (record_at s) (record_wide s) front i c.loop.k refl here v.4 (c.fill_record.ensures ∙ ap (λ p. sets c.loop.row c.loop.k (record_at s p)) v.0),
    )

pub returns : goal.returns
returns c =
    let a = c.args in
    let e : c.loop.counter ≡ a.count = omega arith in
    c.loop.invariant.4 ∙ ap (λ n. sets a.row.now 0 (records_at a.s.now n front)) e
