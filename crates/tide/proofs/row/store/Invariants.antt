-- `store` meets its contract: the numbers of the first i records stand in the row.
use Prim.Native.Nat.{◌+◌, ◌*◌, ◌≤◌}
use mathlib.Core.Path.{◌≡◌}
use lib.ListN.{length}
use lib.Seq.{sets}
use Rattle.tide.specs.Row.{long_most, record_most}
use Rattle.tide.specs.Standing.{front, records_at, records_end}
use Rattle.tide.proofs.row.store.Given as goal

abbrev pub invariant-loop : goal.invariant-loop
invariant-loop l = (l.at ≡ records_end l.s l.counter front) × (l.at ≤ front + l.counter * record_most) × (l.k ≡ length (records_at l.s l.counter front)) × (l.k ≤ l.counter * long_most) × (l.row ≡ sets l.initial.row 0 (records_at l.s l.counter front))
