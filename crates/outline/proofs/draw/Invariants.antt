-- `draw` meets its contract: the points of the areas so far stand in the row.
use Prim.Native.Nat.{◌+◌, ◌*◌, ◌≤◌}
use mathlib.Core.Path.{◌≡◌}
use lib.Seq.{sets}
use Rattle.notice_fields.specs.Standing.{front, area_most, areas_end}
use Rattle.notice_fields.specs.Shapes.{points_in}
use Rattle.outline.specs.Standing.{outline_at}
use Rattle.outline.proofs.draw.Given as goal

abbrev pub invariant-loop : goal.invariant-loop
invariant-loop l = (l.at ≡ areas_end l.s l.counter front) × (l.at ≤ front + l.counter * area_most) × (l.k ≡ points_in l.s l.counter front * 2) × (l.row ≡ sets l.initial.row 0 (outline_at l.s l.counter front))
