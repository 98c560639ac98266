-- `list_missing` meets its contract: the missing numbers below k stand in front of the row.
use mathlib.Core.List.{◌++◌}
use mathlib.Core.Path.{◌≡◌}
use lib.ListN.{length, drop}
use Rattle.places.specs.Desk.{missing_below}
use Rattle.desk.proofs.asking.joining.list_missing.Given as goal

abbrev pub invariant-loop-k : goal.invariant-loop-k
invariant-loop-k l = let ns = missing_below l.k l.fn.p in (l.at ≡ length ns) × (l.row ≡ ns ++ drop (length ns) l.initial.row)
