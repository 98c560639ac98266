-- `walk` meets its contract: what is left to do from the records and entries that are passed is what there was to do; a refusal leaves nothing.
use Prim.Native.Nat.{ℕ, ◌+◌, ◌-◌, ◌≤◌}
use mathlib.Core.Path.{◌≡◌}
use mathlib.Core.List.{List}
use Rattle.walk.specs.Groups.{repeat_walked}
use Rattle.walk.specs.Walk.{Walk, seen}
use Rattle.tide.specs.Steps.{entry_step, records_walked}
use Rattle.tide.proofs.records.walk.Given as goal

-- behind the entries of a record, where i records are passed
abbrev pub next : List ℕ → ℕ → ℕ → Walk → Walk
next s count i w = records_walked s (count - (i + 1)) w

abbrev pub invariant-entries : goal.invariant-entries
invariant-entries l = (l.j ≤ l.n) × (repeat_walked l.n (entry_step l.s) (next l.s l.count l.counter) (seen l.initial.w) ≡ repeat_walked (l.n - l.j) (entry_step l.s) (next l.s l.count l.counter) (seen l.w)) × ((seen l.w).code ≡ 0)

abbrev pub decreases-entries : goal.decreases-entries
decreases-entries l = l.n - l.j

abbrev pub invariant-records : goal.invariant-records
invariant-records l = (records_walked l.s l.count (seen l.initial.w) ≡ records_walked l.s (l.count - l.counter) (seen l.w))
