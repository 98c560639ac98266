-- `stands` has an arm for each name; a number that is none of them finds nothing.
use mathlib.Core.Path.{ap}
use lib.Dec.{lit≤}
use Rattle.format.specs.Laws.Spots.{Unnamed, unnamed}
use Rattle.gljc.specs.Changed.{spots, spot_of}
use Rattle.gljc.proofs.correcting.stands.Goals as goal

pub returns-in-3 : goal.returns-in-3
returns-in-3 c = (ap spot_of c.in-3.is, lit≤ tt)

pub returns-in-4 : goal.returns-in-4
returns-in-4 c = (ap spot_of c.in-4.is, lit≤ tt)

pub returns-in_default : goal.returns-in_default
unfolding Unnamed
returns-in_default c = (unnamed spots c.args.field c.in_default.in_default-own.rest, lit≤ tt)
