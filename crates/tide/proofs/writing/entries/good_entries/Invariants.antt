-- `good_entries` tells that every entry is good: those before j are.
use Rattle.tide.specs.RowEntries.{GoodEntries}
use Rattle.tide.proofs.writing.entries.good_entries.Given as goal

abbrev pub invariant-loop-j : goal.invariant-loop-j
invariant-loop-j l = GoodEntries l.row l.j l.k
