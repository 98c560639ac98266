-- `join` meets its contract: the packets below k stand in front of the buffer.
use mathlib.Core.List.{◌++◌}
use mathlib.Core.Path.{◌≡◌}
use lib.ListN.{length, drop}
use Rattle.places.specs.Desk.{joined_below}
use Rattle.places.specs.Laws.Joined.{held_below}
use Rattle.desk.proofs.asking.joining.join.Given as goal

abbrev pub invariant-loop-k : goal.invariant-loop-k
invariant-loop-k l = let x = joined_below l.k l.store l.i l.fn.p in (l.at ≡ held_below l.k l.fn.p) × (l.notice ≡ x ++ drop (length x) l.initial.notice)
