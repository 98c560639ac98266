-- `slots_in` goes along the table: what is left of it decides, from the number that it stands at on.
use mathlib.Core.Path.{◌≡◌}
use Prim.Native.Nat.{suc, ◌≤◌}
use lib.ListN.{length, drop}
use Rattle.ais.specs.Slots.{first_of}
use Rattle.ais.proofs.slot_count.slots_in.Given as goal

abbrev pub invariant-loop-i : goal.invariant-loop-i
invariant-loop-i l = (l.i ≤ length l.limits) × (first_of (suc l.i) (drop l.i l.limits) l.bytes ≡ first_of 1 l.limits l.bytes)
