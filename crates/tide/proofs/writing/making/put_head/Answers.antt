-- `put_head` puts the codes and the count.
use mathlib.Core.Path.{subst, ◌∙◌}
use lib.Dec.{lit≤}
use Rattle.format.specs.Codes.{codes, headed}
use Rattle.format.specs.Laws.Putting.{put_start}
use Rattle.format.proofs.Laws.Putting.{put_step, put_choice}
use Rattle.tide.specs.Record.{leading}
use Rattle.tide.specs.Tide.{tides}
use Rattle.tide.specs.Written.{HeadPut}
use Rattle.tide.proofs.writing.making.put_head.Goals as goal

pub shape_of-buf : goal.shape_of-buf
shape_of-buf c =
    c.put-4.auto.s ∙ c.put-3.auto.s ∙ c.put-2.auto.s ∙ c.put.auto.s

pub returns : goal.returns
unfolding tides headed codes
returns c =
    let a = c.args in
    subst (λ n. HeadPut n a.buf.now c.put-4.new.s) c.from.ensures λ vs b fine e l.
    let r0 = put_start a.buf.now tides.fmt (leading c.from.result vs) b fine l e in
    let r1 = put_step 8 (lit≤ tt) r0 c.put.ensures in
    let r2 = put_step 3 (lit≤ tt) r1 c.put-2.ensures in
    let r3 = put_step 1 (lit≤ tt) r2 c.put-3.ensures in
    put_choice 9 (lit≤ tt) r3 c.put-4.ensures
