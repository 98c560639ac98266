-- A number that is none of the names in `cyclone` finds nothing. The check proves the rest, and the other four bodies' functions.
use lib.Dec.{lit≤}
use Rattle.format.specs.Laws.Spots.{Unnamed, picks}
use Rattle.warning.specs.Bodies.{cyclone}
use Rattle.warning.specs.Laws.Correction.{not_named}
use Rattle.warning.proofs.correcting.cyclone.Goals as goal

pub returns-in_default : goal.returns-in_default
unfolding Unnamed picks
returns-in_default c = (not_named cyclone c.args.field c.in_default.in_default-own.rest, lit≤ tt)
