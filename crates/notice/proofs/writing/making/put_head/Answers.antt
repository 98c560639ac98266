-- `put_head` puts the head's values in bit order.
use mathlib.Core.Path.{◌∙◌}
use lib.Dec.{lit≤}
use Rattle.format.specs.Laws.Putting.{put_start}
use Rattle.format.proofs.Laws.Putting.{put_step, put_choice}
use Rattle.notice.specs.Notice.{ours, notice as Notice·notice}
use Rattle.notice.specs.Record.{headed}
use Rattle.notice.proofs.writing.making.put_head.Goals as goal

pub shape_of-buf : goal.shape_of-buf
shape_of-buf c =
    c.put-8.auto.s ∙ c.put-7.auto.s ∙ c.put-6.auto.s ∙ c.put-5.auto.s ∙ c.put-4.auto.s ∙ c.put-3.auto.s ∙ c.put-2.auto.s ∙ c.put.auto.s

pub returns : goal.returns
unfolding Notice·notice
returns c =
    let a = c.args in
    λ english vs b fine e l.
    let r0 = put_start a.buf.now (Notice·notice (ours english)) (headed a.r vs) b fine l e in
    let r1 = put_step 5 (lit≤ tt) r0 c.put.ensures in
    let r2 = put_step 4 (lit≤ tt) r1 c.put-2.ensures in
    let r3 = put_step 14 (lit≤ tt) r2 c.put-3.ensures in
    let r4 = put_step 7 (lit≤ tt) r3 c.put-4.ensures in
    let r5 = put_step 4 (lit≤ tt) r4 c.put-5.ensures in
    let r6 = put_step 4 (lit≤ tt) r5 c.put-6.ensures in
    let r7 = put_step 21 (lit≤ tt) r6 c.put-7.ensures in
    put_choice 4 (lit≤ tt) r7 c.put-8.ensures
