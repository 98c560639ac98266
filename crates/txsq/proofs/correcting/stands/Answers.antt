-- `stands` has an arm for each name; a number that is none of them finds nothing.
use mathlib.Core.Path.{ap}
use lib.Dec.{lit≤}
use Rattle.format.specs.Laws.Spots.{Unnamed, unnamed}
use Rattle.txsq.specs.Changed.{spots, spot_of}
use Rattle.txsq.proofs.correcting.stands.Goals as goal

pub returns-in-6 : goal.returns-in-6
returns-in-6 c = (ap spot_of c.in-6.is, lit≤ tt)

pub returns-in-7 : goal.returns-in-7
returns-in-7 c = (ap spot_of c.in-7.is, lit≤ tt)

pub returns-in_default : goal.returns-in_default
unfolding Unnamed
returns-in_default c = (unnamed spots c.args.field c.in_default.in_default-own.rest, lit≤ tt)

pub returns-in-3 : goal.returns-in-3
returns-in-3 c = (ap spot_of c.in-3.is, lit≤ tt)

pub returns-in-5 : goal.returns-in-5
returns-in-5 c = (ap spot_of c.in-5.is, lit≤ tt)

pub returns-in-8 : goal.returns-in-8
returns-in-8 c = (ap spot_of c.in-8.is, lit≤ tt)

pub returns-in-10 : goal.returns-in-10
returns-in-10 c = (ap spot_of c.in-10.is, lit≤ tt)
