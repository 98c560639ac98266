-- `store` meets its contract: the numbers of the areas so far stand in the row.
use Prim.Native.Nat.{◌+◌, ◌*◌, ◌≤◌}
use mathlib.Core.Path.{◌≡◌}
use lib.ListN.{length}
use lib.Seq.{sets}
use Rattle.notice_fields.specs.Standing.{front, area_most, areas_at, areas_end}
use Rattle.notice_fields.proofs.row.store.Given as goal

abbrev pub invariant-loop : goal.invariant-loop
invariant-loop l = (l.at ≡ areas_end l.s l.counter front) × (l.at ≤ front + l.counter * area_most) × (l.k ≡ length (areas_at l.s l.counter front)) × (l.row ≡ sets l.initial.row 0 (areas_at l.s l.counter front))
