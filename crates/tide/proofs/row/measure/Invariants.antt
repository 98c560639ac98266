-- `measure` meets its contract: what the first i records have, and where they end.
use Prim.Native.Nat.{◌+◌, ◌*◌, ◌≤◌}
use mathlib.Core.Path.{◌≡◌}
use Rattle.tide.specs.Row.{long_most, record_most}
use Rattle.tide.specs.Shapes.{numbers_in, entries_in}
use Rattle.tide.specs.Standing.{front, records_end}
use Rattle.tide.proofs.row.measure.Given as goal

abbrev pub invariant-loop : goal.invariant-loop
invariant-loop l = (l.numbers ≡ numbers_in l.s l.counter front) × (l.entries ≡ entries_in l.s l.counter front) × (l.at ≡ records_end l.s l.counter front) × (l.at ≤ front + l.counter * record_most) × (l.numbers ≤ l.counter * long_most) × (l.entries ≤ l.counter * 511)
