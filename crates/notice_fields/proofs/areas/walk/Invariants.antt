-- `walk` meets its contract: what is left to do from the areas and points that are passed is what there was to do; the first bad point leaves nothing.
use Prim.Native.Nat.{ℕ, ◌+◌, ◌-◌}
use mathlib.Core.Path.{◌≡◌}
use mathlib.Core.List.{List}
use Rattle.walk.specs.Walk.{Walk, seen}
use Rattle.notice_fields.specs.Areas.{kind_of}
use Rattle.walk.specs.Groups.{repeat_walked}
use Rattle.notice_fields.specs.Steps.{closed_as, point_step, areas_walked}
use Rattle.notice_fields.proofs.areas.walk.Given as goal

-- behind the points of an area, where i areas are passed
abbrev pub next : List ℕ → ℕ → ℕ → ℕ → Walk → Walk
next s count i kind w = areas_walked s (count - (i + 1)) (closed_as (kind_of kind) s w)

-- the area that the points are of is number `counter-2`
abbrev pub invariant-points : goal.invariant-points
invariant-points l =
    let on = next l.s l.count l.counter-2 l.kind.v in
    repeat_walked l.end (point_step l.s) on (seen l.initial.w) ≡ repeat_walked (l.end - l.counter) (point_step l.s) on (seen l.w)

abbrev pub invariant-areas : goal.invariant-areas
invariant-areas l = areas_walked l.s l.count (seen l.initial.w) ≡ areas_walked l.s (l.count - l.counter) (seen l.w)
