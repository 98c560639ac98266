-- `put` puts the values in bit order: each step is a law of putting.
use mathlib.Core.Path.{◌≡◌, refl}
use native.Mathlib.Omega.{arith}
use lib.Dec.{lit≤}
use lib.ListN.{length}
use Rattle.bits.specs.Bits.{Bytes}
use Rattle.format.specs.Laws.Putting.{put_start, put_end}
use Rattle.format.proofs.Laws.Putting.{put_step}
use Rattle.distress.specs.Report.{report}
use Rattle.distress.specs.Values.{list_of}
use Rattle.distress.proofs.writing.making.put.Goals.{After-put-6}
use Rattle.distress.proofs.writing.making.put.Goals as goal

-- the first 6 puts leave as many bytes
half : (p : After-put-6) → length p.put-6.new.s ≡ length p.args.buf.now
half p = omega arith

pub shape_of-buf : goal.shape_of-buf
shape_of-buf c = let h = half (goal.at.shape_of-buf c).After-put-6 in omega arith

pub returns : goal.returns
unfolding report list_of
returns c b e l =
    let a = c.args in
    let fine : Bytes a.buf.now = λ i. (c.slice_known-1.given i).fits in
    let r0 = put_start a.buf.now report (list_of a.v) b fine l e in
    let r1 = put_step 16 (lit≤ tt) r0 c.put.ensures in
    let r2 = put_step 32 (lit≤ tt) r1 c.put-2.ensures in
    let r3 = put_step 25 (lit≤ tt) r2 c.put-3.ensures in
    let r4 = put_step 24 (lit≤ tt) r3 c.put-4.ensures in
    let r5 = put_step 5 (lit≤ tt) r4 c.put-5.ensures in
    let r6 = put_step 5 (lit≤ tt) r5 c.put-6.ensures in
    let r7 = put_step 6 (lit≤ tt) r6 c.put-7.ensures in
    let r8 = put_step 7 (lit≤ tt) r7 c.put-8.ensures in
    let r9 = put_step 9 (lit≤ tt) r8 c.put-9.ensures in
    let r10 = put_step 4 (lit≤ tt) r9 c.put-10.ensures in
    let r11 = put_step 3 (lit≤ tt) r10 c.put-11.ensures in
    put_end fine refl r11
