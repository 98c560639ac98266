-- `show` meets its contract: the heights of the first i records stand in the row.
use Prim.Native.Nat.{◌+◌, ◌*◌, ◌≤◌}
use mathlib.Core.Path.{◌≡◌}
use lib.Seq.{sets}
use Rattle.tide.specs.Heights.{heights_at}
use Rattle.tide.specs.Row.{record_most}
use Rattle.tide.specs.Shapes.{entries_in}
use Rattle.tide.specs.Standing.{front, records_end}
use Rattle.tide.proofs.heights.show.Given as goal

abbrev pub invariant-loop : goal.invariant-loop
invariant-loop l = (l.at ≡ records_end l.s l.counter front) × (l.at ≤ front + l.counter * record_most) × (l.k ≡ entries_in l.s l.counter front) × (l.k ≤ l.counter * 511) × (l.row ≡ sets l.initial.row 0 (heights_at l.s l.counter front))
