-- `fill`: what a put of no more than seven zero bits leaves.
use Rattle.format.specs.Correcting.{put_in_lem}
use Rattle.change.proofs.putting.fill.Goals as goal

pub returns : goal.returns
returns c =
    let a = c.args in
    put_in_lem a.buf.now a.at _ 0 c.put.ensures
