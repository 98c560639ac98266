-- Every kind of body: its warning type is small, and its refusals are numbers of the paper. Assumes nothing.
use Rattle.std.specs.Prelude.{◌≤◌}
use Rattle.std.proofs.Common.{lit≤}
use Rattle.format.specs.Fmt.{Fmt}
use Rattle.format.specs.Laws.Zero.{Judged, only_numbered}
use Rattle.warning.specs.Bodies.{Kind, cyclone, gale, waves, fog, surge, type_of, body}

pub type_small : (t : Kind) → type_of t ≤ 5
type_small cyclone = lit≤ tt
type_small gale = lit≤ tt
type_small waves = lit≤ tt
type_small fog = lit≤ tt
type_small surge = lit≤ tt

-- its refusals are numbers of the paper
pub body_numbered : (t : Kind) (f : Fmt) → Judged f → Judged (body t f)
body_numbered cyclone f j = (only_numbered 3 3 _, (only_numbered 9 3 _, (only_numbered 9 3 _, (only_numbered 6 3 _, (only_numbered 9 3 _, (only_numbered 5 3 _, (only_numbered 9 3 _, j)))))))
body_numbered gale f j = (only_numbered 8 3 _, (only_numbered 5 3 _, (only_numbered 5 3 _, (only_numbered 4 3 _, (only_numbered 28 4 _, j)))))
body_numbered waves f j = (only_numbered 8 3 _, (only_numbered 5 3 _, (only_numbered 13 3 _, (only_numbered 24 4 _, j))))
body_numbered fog f j = (only_numbered 9 3 _, (only_numbered 8 3 _, (only_numbered 33 4 _, j)))
body_numbered surge f j = (only_numbered 9 3 _, (only_numbered 9 3 _, (only_numbered 10 3 _, (only_numbered 13 3 _, (only_numbered 9 4 _, j)))))
