-- A number that is none of the names in `circle` finds nothing. The check proves the rest.
use lib.Dec.{lit≤}
use Rattle.format.specs.Laws.Spots.{Unnamed, picks}
use Rattle.area.specs.Shapes.{circle}
use Rattle.area.specs.Laws.Correction.{not_named}
use Rattle.area.proofs.correcting.circle.Goals as goal

pub returns-in_default : goal.returns-in_default
unfolding Unnamed picks
returns-in_default c = (not_named circle c.args.field c.in_default.in_default-own.rest, lit≤ tt)
