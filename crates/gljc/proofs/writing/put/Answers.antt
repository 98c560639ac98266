-- `put` puts the values in bit order: each step is a law of putting.
use mathlib.Core.Path.{refl}
use lib.Dec.{lit≤}
use Rattle.bits.specs.Bits.{Bytes}
use Rattle.frame.specs.Laws.Head.{head_put_lem}
use Rattle.format.specs.Laws.Putting.{put_start, put_end}
use Rattle.format.proofs.Laws.Putting.{put_step}
use Rattle.gljc.specs.Gljc.{letters, gljc, values_of}
use Rattle.gljc.proofs.writing.put.Goals as goal

pub returns : goal.returns
unfolding gljc values_of
returns c b e l =
    let a = c.args in
    let fine : Bytes a.buf.now = λ i. (c.slice_known-1.given i).fits in
    let r0 = head_put_lem letters 12 12 _ (put_start a.buf.now gljc (values_of a.r) b fine l e) c.put.ensures in
    put_end fine refl (put_step 8 (lit≤ tt) r0 c.put-2.ensures)
