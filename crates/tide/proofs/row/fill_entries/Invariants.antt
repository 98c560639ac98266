-- `fill_entries` meets its contract: the first j entries stand in the row.
use mathlib.Core.Path.{◌≡◌}
use lib.Seq.{sets}
use Rattle.tide.specs.Standing.{entries_at}
use Rattle.tide.proofs.row.fill_entries.Given as goal

abbrev pub invariant-loop-j : goal.invariant-loop-j
invariant-loop-j l = l.row ≡ sets l.initial.row l.k (entries_at l.s l.j l.at)
