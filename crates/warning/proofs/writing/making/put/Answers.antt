-- `put` puts the values in bit order: one step a field, and one law for the body.
use mathlib.Core.Path.{◌≡◌, refl}
use native.Mathlib.Omega.{arith}
use lib.Dec.{lit≤}
use lib.ListN.{length}
use Rattle.bits.specs.Bits.{Bytes}
use Rattle.warning.specs.Bodies.{body_kind}
use Rattle.warning.specs.Laws.Walking.{type_small}
use Rattle.ais_common.specs.Laws.Walking.{put_told}
use Rattle.format.specs.Words.{wide}
use Rattle.format.specs.Laws.Extent.{opens_choice}
use Rattle.format.specs.Laws.Putting.{put_start, put_end}
use Rattle.format.proofs.Laws.Putting.{put_step}
use Rattle.warning.specs.Warning.{warning, values_as}
use Rattle.warning.proofs.writing.making.put.Goals.{After-put-7}
use Rattle.warning.proofs.writing.making.put.Goals as goal

pub overflow_cast-kind : goal.overflow_cast-kind
overflow_cast-kind c =
    omega (arith, c.kind-kind.ensures, type_small (body_kind c.args.r.body))

-- the first 7 puts leave as many bytes
half : (p : After-put-7) → length p.put-7.new.s ≡ length p.args.buf.now
half p = omega arith

pub shape_of-buf : goal.shape_of-buf
shape_of-buf c = let h = half (goal.at.shape_of-buf c).After-put-7 in omega arith

pub returns : goal.returns
unfolding warning values_as wide
returns c b e l =
    let a = c.args in
    let s = a.buf.now in
    let r = a.r in
    let fine : Bytes s = λ i. (c.slice_known-1.given i).fits in
    let q0 = put_start s warning (values_as r a.time) b fine l e in
    let q1 = put_step 6 (lit≤ tt) q0 c.put.ensures in
    let q2 = put_step 2 (lit≤ tt) q1 c.put-2.ensures in
    let q3 = put_step 30 (lit≤ tt) q2 c.put-3.ensures in
    let q4 = put_step 2 (lit≤ tt) q3 c.put-4.ensures in
    let q5 = put_step 10 (lit≤ tt) q4 c.put-5.ensures in
    let q6 = put_step 6 (lit≤ tt) q5 c.put-6.ensures in
    let q7 = put_told 4 (lit≤ tt) opens_choice c.kind-kind.ensures q6 c.put-7.ensures in
    let q8 = put_step 23 (lit≤ tt) q7 c.put-8.ensures in
    let q9 = put_step 23 (lit≤ tt) q8 c.put-9.ensures in
    let q10 = c.put-10.ensures.on q9 in
    let q11 = put_step 20 (lit≤ tt) q10 c.put-11.ensures in
    let q12 = put_step 6 (lit≤ tt) q11 c.put-12.ensures in
    put_end fine refl (put_step 2 (lit≤ tt) q12 c.put-13.ensures)
