-- `put` puts the values in bit order: each step is a law of putting, and the content is one run of bytes.
use Rattle.std.proofs.Common.{◌∙◌, arith, lit≤}
use Rattle.bits.specs.Bits.{Bytes, put_bytes_at}
use Rattle.format.specs.Laws.Extent.{opens_field}
use Rattle.format.specs.Laws.Putting.{put_start, put_bytes, put_run, put_end}
use Rattle.format.proofs.Laws.Putting.{put_step, begins}
use Rattle.format.specs.Laws.Runs.{run_bits}
use Rattle.packet.specs.Packet.{packet, values_of}
use Rattle.packet.proofs.writing.making.put.Goals as goal

pub shape_of-buf : goal.shape_of-buf
shape_of-buf c =
    c.put_bytes.auto.buf ∙ c.put-6.auto.s ∙ c.put-5.auto.s ∙ c.put-4.auto.s ∙ c.put-3.auto.s ∙ c.put-2.auto.s ∙ c.put.auto.s

pub returns : goal.returns
unfolding packet values_of put_bytes_at
returns c b e l =
    let a = c.args in
    let x = a.content.now in
    let fine : Bytes a.buf.now = λ i. (c.slice_known-1.given i).fits in
    let r0 = put_start a.buf.now packet (values_of (a.r, x)) b fine l e in
    let r1 = put_step 8 (lit≤ tt) r0 c.put.ensures in
    let r2 = put_step 3 (lit≤ tt) r1 c.put-2.ensures in
    let r3 = put_step 1 (lit≤ tt) r2 c.put-3.ensures in
    let r4 = put_step 8 (lit≤ tt) r3 c.put-4.ensures in
    let r5 = put_step 6 (lit≤ tt) r4 c.put-5.ensures in
    let r6 = put_step 6 (lit≤ tt) r5 c.put-6.ensures in
    put_end fine (omega arith) (put_run x (run_bits x) (begins opens_field) (put_bytes r6) c.put_bytes.ensures)
