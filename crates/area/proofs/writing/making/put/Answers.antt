-- `put` puts the values in bit order: each step is a law of putting, the shape one law.
use mathlib.Core.Path.{◌≡◌, refl}
use Prim.Native.Nat.{◌<◌}
use native.Mathlib.Omega.{arith}
use lib.Dec.{lit≤}
use lib.ListN.{length}
use Rattle.bits.specs.Bits.{Bytes}
use Rattle.format.specs.Words.{wide}
use Rattle.format.specs.Laws.Extent.{opens_choice}
use Rattle.format.specs.Laws.Putting.{put_start, put_end}
use Rattle.format.proofs.Laws.Putting.{put_step}
use Rattle.area.specs.Area.{area, values_as}
use Rattle.ais_common.specs.Laws.Walking.{put_told}
use Rattle.area.proofs.writing.making.put.Goals.{After-put-10, After-put-4}
use Rattle.area.proofs.writing.making.put.Goals as goal

pub overflow_cast-kind : goal.overflow_cast-kind
overflow_cast-kind c =
    let n : c.kind-kind.result < 256 = c.kind-kind.type_inv in
    record { fits = omega (arith, n) }

-- the first 4 puts leave as many bytes, and so do the 6th to the 10th
first : (p : After-put-4) → length p.put-4.new.s ≡ length p.args.buf.now
first p = omega arith

next : (p : After-put-10) → length p.put-10.new.s ≡ length p.put-5.new.s
next p = omega arith

pub shape_of-buf : goal.shape_of-buf
shape_of-buf c =
    let h = next (goal.at.shape_of-buf c).After-put-10 in
    let g = first (goal.at.shape_of-buf c).After-put-4 in
    omega (arith, c.put-5.auto.s)

pub returns : goal.returns
unfolding area values_as wide
returns c b e l =
    let a = c.args in
    let fine : Bytes a.buf.now = λ i. (c.slice_known-1.given i).fits in
    let r0 = put_start a.buf.now area (values_as a.r a.time a.second) b fine l e in
    let r1 = put_step 6 (lit≤ tt) r0 c.put.ensures in
    let r2 = put_step 2 (lit≤ tt) r1 c.put-2.ensures in
    let r3 = put_step 30 (lit≤ tt) r2 c.put-3.ensures in
    let r4 = put_step 2 (lit≤ tt) r3 c.put-4.ensures in
    let r5 = put_step 30 (lit≤ tt) r4 c.put-5.ensures in
    let r6 = put_step 1 (lit≤ tt) r5 c.put-6.ensures in
    let r7 = put_step 1 (lit≤ tt) r6 c.put-7.ensures in
    let r8 = put_step 10 (lit≤ tt) r7 c.put-8.ensures in
    let r9 = put_step 6 (lit≤ tt) r8 c.put-9.ensures in
    let r10 = put_step 4 (lit≤ tt) r9 c.put-10.ensures in
    let r11 = put_told 2 (lit≤ tt) opens_choice c.kind-kind.ensures r10 c.put-11.ensures in
    let r12 = c.put-12.ensures.on r11 in
    let r13 = put_step 20 (lit≤ tt) r12 c.put-13.ensures in
    let r14 = put_step 14 (lit≤ tt) r13 c.put-14.ensures in
    let r15 = put_step 4 (lit≤ tt) r14 c.put-15.ensures in
    let r16 = put_step 6 (lit≤ tt) r15 c.put-16.ensures in
    put_end fine refl r16
