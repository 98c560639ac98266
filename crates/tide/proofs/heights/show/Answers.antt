-- `show` meets its contract: the heights of the first i records stand in the row.
use Prim.Native.Nat.{◌+◌}
use mathlib.Core.Path.{◌≡◌, refl, sym, ap, ◌∙◌}
use native.Mathlib.Omega.{arith}
use native.Mathlib.Nat.{zero-add}
use native.Mathlib.Numerals.{add-one}
use lib.ListN.{length}
use lib.Seq.{sets}
use Rattle.walk.specs.Groups.{repeat_at, repeat_end, repeat_sum}
use Rattle.walk.specs.Laws.Stored.{sum_more, item_within, stored_turn}
use Rattle.tide.specs.Heights.{entries_shown, record_shown, heights_at}
use Rattle.tide.specs.Shapes.{shape_at, entries_in}
use Rattle.tide.specs.Standing.{front, record_wide, records_end}
use Rattle.tide.specs.declared.row.Shape.{Shape}
use Rattle.tide.specs.Laws.Heights.{shown_long, heights_long}
use Rattle.tide.specs.Laws.Shapes.{record_small, next_more}
use Rattle.tide.proofs.heights.show.Goals as goal

pub loop-init : goal.loop-init
unfolding repeat_at repeat_end repeat_sum
loop-init c = (refl, omega arith, refl, omega arith, refl)

pub show_entries-requires : goal.show_entries-requires
show_entries-requires c =
    let a = c.args in
    let s = a.s.now in
    let v = c.loop.invariant in
    let x = c.record_at-shape.ensures in
    let entries = ap (λ (r : Shape). r.entries) x in
    let first = ap (λ (r : Shape). r.first) x in
    let here = ap (λ p. (shape_at s p).entries) v.0 in
    let e = records_end s c.loop.counter front in
    let within = item_within c.loop.counter a.count (record_shown s) (record_wide s) front (omega arith) in
    let one = shown_long s (shape_at s e).entries (shape_at s e).first in
    let (_, _, few, near) = record_small s c.loop.at in
    (omega (arith, near, first), omega (arith, few, entries), omega (arith, within, one, here, entries, v.2, heights_long s c.loop.counter front))

pub overflow_add-k : goal.overflow_add-k
overflow_add-k c =
    let (_, _, few, _) = record_small c.args.s.now c.loop.at in
    omega (arith, few, ap (λ (r : Shape). r.entries) c.record_at-shape.ensures)

pub overflow_cast-at-in-loop : goal.overflow_cast-at-in-loop
overflow_cast-at-in-loop c =
    let (n, _, _, _) = record_small c.args.s.now c.loop.at in
    omega (arith, n, ap (λ (r : Shape). r.next) c.record_at-shape.ensures)

pub loop-preserved : goal.loop-preserved
loop-preserved c =
    let a = c.args in
    let s = a.s.now in
    let i = c.loop.counter in
    let v = c.loop.invariant in
    let x = c.record_at-shape.ensures in
    let r = c.record_at-shape.result in
    let next = ap (λ (r : Shape). r.next) x in
    let entries = ap (λ (r : Shape). r.entries) x in
    let here = entries ∙ ap (λ p. (shape_at s p).entries) v.0 in
    let (n, _, few, _) = record_small s c.loop.at in
    let one = add-one i in
    let new : entries_shown s r.entries r.first ≡ record_shown s (records_end s i front) = ap (λ (r : Shape). entries_shown s r.entries r.first) x ∙ ap (record_shown s) v.0 in
    let at : c.loop.k ≡ 0 + length (heights_at s i front) = v.2 ∙ heights_long s i front ∙ sym (zero-add (length (heights_at s i front))) in (
      next ∙ ap (λ p. (shape_at s p).next) v.0 ∙ next_more s i front ∙ ap (λ n. records_end s n front) (sym one),
      omega (arith, n, next),
      omega (arith, v.2, here, sum_more i (λ at. (shape_at s at).entries) (record_wide s) front, ap (λ n. entries_in s n front) one),
      omega (arith, few, entries),
      stored_turn a.row.now 0 (record_shown s) (record_wide s) front i c.loop.k refl at v.4 (c.show_entries.ensures ∙ ap (sets c.loop.row c.loop.k) new),
    )

pub returns : goal.returns
returns c =
    let a = c.args in
    let e : c.loop.counter ≡ a.count = omega arith in
    c.loop.invariant.4 ∙ ap (λ n. sets a.row.now 0 (heights_at a.s.now n front)) e
