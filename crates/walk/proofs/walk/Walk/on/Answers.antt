-- `on` steps over the field: the verdict, what is sought and where it stood each behind it.
use Rattle.std.proofs.Common.{ap}
use Rattle.walk.specs.Walk.{onward}
use Rattle.format.specs.Refusals.{Verdict}
use Rattle.walk.proofs.walk.Walk.on.Goals as goal

pub returns : goal.returns
unfolding onward
returns c =
    let a = c.args in
    let at = c.wrapping_add_usize.ensures.value in
    let verdict = c.judged.ensures in
    let sought = c.sought_behind.ensures in
    let spot = c.spot_behind.ensures in
    λ i. record {
      at = at i;
      code = (verdict i).code;
      offset = (verdict i).bit;
      v = a.v;
      seek = sought.seek i;
      left = sought.left i;
      found = spot.found i;
      spot = spot.place i;
      width = spot.width i;
    }
