-- `measure` meets its contract: what the areas so far have, and where they end.
use Prim.Native.Nat.{◌+◌, ◌*◌, ◌≤◌}
use mathlib.Core.Path.{◌≡◌}
use Rattle.notice_fields.specs.Row.{long_most}
use Rattle.notice_fields.specs.Standing.{front, area_most, areas_end}
use Rattle.notice_fields.specs.Shapes.{numbers_in, points_in}
use Rattle.notice_fields.proofs.row.measure.Given as goal

abbrev pub invariant-loop : goal.invariant-loop
invariant-loop l = (l.numbers ≡ numbers_in l.s l.counter front) × (l.points ≡ points_in l.s l.counter front) × (l.at ≡ areas_end l.s l.counter front) × (l.at ≤ front + l.counter * area_most) × (l.numbers ≤ l.counter * long_most) × (l.points ≤ l.counter * 15)
