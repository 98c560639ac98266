-- `Place::entries_good` meets its contract: of the entries below k, whether all are good, and whether the greatest is 0.
use mathlib.Core.Path.{◌≡◌}
use lib.Dec.{eqb}
use Rattle.places.specs.Places.{every_below, lacks, entry_good}
use Rattle.places.proofs.Place.entries_good.Given as goal

abbrev pub invariant-loop-k : goal.invariant-loop-k
invariant-loop-k l = (l.good ≡ every_below l.k (entry_good l.self)) × (eqb l.most 0 ≡ every_below l.k (lacks l.self))
