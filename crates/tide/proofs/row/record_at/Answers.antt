-- `record_at` meets its contract: by the position type, then the count.
use Prim.Native.Nat.{◌+◌, ◌*◌, ◌^◌, ◌≤◌, ◌<◌}
use mathlib.Core.Path.{◌≡◌, ap, ◌∙◌}
use native.Mathlib.Omega.{arith}
use Rattle.bits.specs.Answers.{got}
use Rattle.walk.specs.Laws.Reading.{got_lt}
use Rattle.notice_fields.specs.Parts.{point_bits}
use Rattle.tide.specs.Row.{placed_long, placed_bits, entry_bits}
use Rattle.tide.specs.Shapes.{shape_at}
use Rattle.tide.specs.declared.row.Place.{Place}
use Rattle.tide.specs.Laws.Shapes.{place_small}
use Rattle.tide.proofs.row.record_at.Goals.{After-place_of-place, After-get-entries}
use Rattle.tide.proofs.row.record_at.Goals as goal

-- the position is short, and nine bits count the entries
narrow : (c : After-place_of-place) → (c.place_of-place.result.wide ≤ point_bits) × (c.place_of-place.result.long ≤ 2)
narrow c =
    let w = ap (λ (r : Place). r.wide) c.place_of-place.ensures in
    let l = ap (λ (r : Place). r.long) c.place_of-place.ensures in
    let (few, small) = place_small c.get.result in
    (omega (arith, w, small), omega (arith, l, few))

counted : (c : After-get-entries) → c.get-entries.result < 2 ^ 9
counted c = got_lt c.args.s.now _ 9 c.get-entries.ensures

pub overflow_add-counted : goal.overflow_add-counted
overflow_add-counted c = omega (arith, narrow c)

pub overflow_add-counted-2 : goal.overflow_add-counted-2
overflow_add-counted-2 c = omega (arith, narrow (goal.at.overflow_add-counted-2 c).After-place_of-place)

pub overflow_add-counted-3 : goal.overflow_add-counted-3
overflow_add-counted-3 c = omega (arith, narrow (goal.at.overflow_add-counted-3 c).After-place_of-place)

pub overflow_add-first : goal.overflow_add-first
overflow_add-first c = omega (arith, narrow (goal.at.overflow_add-first c).After-place_of-place, counted (goal.at.overflow_add-first c).After-get-entries)

pub overflow_mul-result : goal.overflow_mul-result
overflow_mul-result c = omega (arith, narrow (goal.at.overflow_mul-result c).After-place_of-place, counted (goal.at.overflow_mul-result c).After-get-entries)

pub overflow_add-result : goal.overflow_add-result
overflow_add-result c = omega (arith, narrow (goal.at.overflow_add-result c).After-place_of-place, counted (goal.at.overflow_add-result c).After-get-entries)

pub overflow_add-result-2 : goal.overflow_add-result-2
overflow_add-result-2 c = omega (arith, narrow (goal.at.overflow_add-result-2 c).After-place_of-place, counted (goal.at.overflow_add-result-2 c).After-get-entries)

pub overflow_mul-result-2 : goal.overflow_mul-result-2
overflow_mul-result-2 c = omega (arith, narrow (goal.at.overflow_mul-result-2 c).After-place_of-place, counted (goal.at.overflow_mul-result-2 c).After-get-entries)

pub overflow_add-result-3 : goal.overflow_add-result-3
overflow_add-result-3 c = omega (arith, narrow (goal.at.overflow_add-result-3 c).After-place_of-place, counted (goal.at.overflow_add-result-3 c).After-get-entries)

pub returns : goal.returns
unfolding shape_at
returns c =
    let a = c.args in
    let s = a.s.now in
    let kind = c.get.ensures in
    let w : c.place_of-place.result.wide ≡ placed_bits (got s a.at 1) = ap (λ (r : Place). r.wide) c.place_of-place.ensures ∙ ap placed_bits kind in
    let l : c.place_of-place.result.long ≡ placed_long (got s a.at 1) = ap (λ (r : Place). r.long) c.place_of-place.ensures ∙ ap placed_long kind in
    let counted : a.at + 1 + c.place_of-place.result.wide + 1 ≡ a.at + (1 + placed_bits (got s a.at 1)) + 1 = omega (arith, w) in
    let n : c.get-entries.result ≡ got s (a.at + (1 + placed_bits (got s a.at 1)) + 1) 9 = c.get-entries.ensures ∙ ap (λ p. got s p 9) counted in
    λ i. record { entries = n i; first = counted i + 9; next = counted i + 9 + n i * entry_bits; numbers = l i + 3 + n i * 3 }
