-- `stands` has an arm for each name; a number that is none of them finds nothing.
use mathlib.Core.Path.{ap}
use lib.Dec.{lit≤}
use Rattle.format.specs.Laws.Spots.{Unnamed, unnamed}
use Rattle.txxx.specs.Changed.{spots_by, spot_by}
use Rattle.txxx.proofs.correcting.stands.Goals as goal

pub returns-in-6 : goal.returns-in-6
returns-in-6 c = (ap (spot_by c.args.mark) c.in-6.is, lit≤ tt)

pub returns-in-7 : goal.returns-in-7
returns-in-7 c = (ap (spot_by c.args.mark) c.in-7.is, lit≤ tt)

pub returns-in_default : goal.returns-in_default
unfolding Unnamed
returns-in_default c = let a = c.args in (unnamed (spots_by a.mark) a.field c.in_default.in_default-own.rest, lit≤ tt)

pub returns-in-3 : goal.returns-in-3
returns-in-3 c = (ap (spot_by c.args.mark) c.in-3.is, lit≤ tt)

pub returns-in-4 : goal.returns-in-4
returns-in-4 c = (ap (spot_by c.args.mark) c.in-4.is, lit≤ tt)

pub returns-in-5 : goal.returns-in-5
returns-in-5 c = (ap (spot_by c.args.mark) c.in-5.is, lit≤ tt)

pub returns-in-11 : goal.returns-in-11
returns-in-11 c = (ap (spot_by c.args.mark) c.in-11.is, lit≤ tt)
