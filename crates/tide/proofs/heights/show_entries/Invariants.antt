-- `show_entries` meets its contract: the first j heights stand in the row.
use mathlib.Core.Path.{◌≡◌}
use lib.Seq.{sets}
use Rattle.tide.specs.Heights.{entries_shown}
use Rattle.tide.proofs.heights.show_entries.Given as goal

abbrev pub invariant-loop-j : goal.invariant-loop-j
invariant-loop-j l = l.row ≡ sets l.initial.row l.k (entries_shown l.s l.j l.at)
