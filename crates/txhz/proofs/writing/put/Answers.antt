-- `put` puts the values in bit order: each step is a law of putting, each receipt one law.
use mathlib.Core.Path.{refl, ◌∙◌}
use lib.Dec.{lit≤}
use Rattle.bits.specs.Bits.{Bytes}
use Rattle.frame.specs.Laws.Head.{head_put_lem}
use Rattle.format.specs.Laws.Putting.{put_start, put_end}
use Rattle.format.proofs.Laws.Putting.{put_step}
use Rattle.txhz.specs.Txhz.{letters, txhz, values_of}
use Rattle.txhz.specs.Laws.Receipts.{receipt_put_lem}
use Rattle.txhz.proofs.writing.put.Goals as goal

pub shape_of-buf : goal.shape_of-buf
shape_of-buf c =
    c.put_receipt-5.auto.buf ∙ c.put_receipt-4.auto.buf ∙ c.put_receipt-3.auto.buf ∙ c.put_receipt-2.auto.buf ∙ c.put_receipt.auto.buf ∙ c.put-3.auto.s ∙ c.put-2.auto.s ∙ c.put.auto.buf

pub returns : goal.returns
unfolding txhz values_of
returns c b e l =
    let a = c.args in
    let fine : Bytes a.buf.now = λ i. (c.slice_known-1.given i).fits in
    let r0 = head_put_lem letters 35 35 _ (put_start a.buf.now txhz (values_of a.r) b fine l e) c.put.ensures in
    let r1 = put_step 24 (lit≤ tt) r0 c.put-2.ensures in
    let r2 = put_step 8 (lit≤ tt) r1 c.put-3.ensures in
    let r3 = receipt_put_lem 0 r2 c.put_receipt.ensures in
    let r4 = receipt_put_lem 1 r3 c.put_receipt-2.ensures in
    let r5 = receipt_put_lem 2 r4 c.put_receipt-3.ensures in
    let r6 = receipt_put_lem 3 r5 c.put_receipt-4.ensures in
    put_end fine refl (receipt_put_lem 4 r6 c.put_receipt-5.ensures)
