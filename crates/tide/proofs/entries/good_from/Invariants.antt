-- `good_from` meets its contract: the entries that are passed are good.
use Rattle.tide.specs.Entries.{AllGood}
use Rattle.tide.proofs.entries.good_from.Given as goal

abbrev pub invariant-loop-j : goal.invariant-loop-j
invariant-loop-j l = AllGood l.s l.at l.j
