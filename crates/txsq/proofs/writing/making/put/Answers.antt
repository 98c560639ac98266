-- `put` puts the values in bit order: each step is a law of putting, and the content is one run of bytes.
use mathlib.Core.Path.{◌≡◌, ap, ◌∙◌}
use mathlib.Core.List.{[]}
use native.Mathlib.Omega.{arith}
use lib.Dec.{lit≤}
use lib.ListN.{length}
use Rattle.bits.specs.Bits.{Bytes, put_bytes_at}
use Rattle.frame.specs.Steps.{head_put}
use Rattle.frame.specs.Laws.Content.{content_bits}
use Rattle.frame.specs.Laws.Head.{head_put_lem}
use Rattle.format.specs.Laws.Extent.{opens_field}
use Rattle.format.proofs.Laws.Legal.{legal}
use Rattle.format.specs.Laws.Putting.{put_start, begins_then, put_run, put_end}
use Rattle.format.proofs.Laws.Putting.{put_step, put_choice, begins}
use Rattle.txsq.specs.Txsq.{letters, body, txsq, values_of}
use Rattle.txsq.specs.Laws.Demands.{content_size}
use Rattle.txsq.proofs.writing.making.put.Goals.{After-put-5}
use Rattle.txsq.proofs.writing.making.put.Goals as goal

-- the first 5 puts leave as many bytes
half : (p : After-put-5) → length p.put-5.new.s ≡ length p.args.buf.now
half p = omega arith

pub shape_of-buf : goal.shape_of-buf
shape_of-buf c = let h = half (goal.at.shape_of-buf c).After-put-5 in omega arith

pub returns : goal.returns
unfolding txsq values_of put_bytes_at
returns c b e l =
    let a = c.args in
    let r = a.r in
    let x = a.content.now in
    let fine : Bytes a.buf.now = λ i. (c.slice_known-1.given i).fits in
    let size = content_size (r, x) (legal txsq [] 0 (values_of (r, x)) b e) in
    let r0 = head_put_lem letters 0 65_535 body (put_start a.buf.now txsq (values_of (r, x)) b fine l e) (c.put.ensures ∙ ap (λ n. head_put letters n r.address a.buf.now) c.declared.ensures) in
    let r1 = put_step 4 (lit≤ tt) r0 c.put-2.ensures in
    let r2 = put_step 2 (lit≤ tt) r1 c.put-3.ensures in
    let r3 = put_step 1 (lit≤ tt) r2 c.put-4.ensures in
    let r4 = put_step 1 (lit≤ tt) r3 c.put-5.ensures in
    let r5 = put_step 24 (lit≤ tt) r4 c.put-6.ensures in
    let r6 = put_choice 16 (lit≤ tt) r5 c.put-7.ensures in
    let r7 = put_step 8 (lit≤ tt) r6 c.put-8.ensures in
    put_end fine (omega arith) (put_run x (content_bits x r.size size) (begins_then (begins opens_field) (begins opens_field)) r7 c.put_bytes.ensures)
