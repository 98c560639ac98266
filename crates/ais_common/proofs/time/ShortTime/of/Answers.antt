-- `of` divides the number as its parts stand in it.
use mathlib.Core.Path.{refl}
use Rattle.ais_common.specs.Time.{short_of}
use Rattle.ais_common.proofs.time.ShortTime.of.Goals as goal

pub returns : goal.returns
unfolding short_of
returns c = refl
