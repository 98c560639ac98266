-- `put_receipt` is four puts, one behind another.
use mathlib.Core.Path.{ap, ◌∙◌}
use Prim.Native.Nat.{◌+◌}
use Rattle.format.specs.Correcting.{put_in, put_in_lem}
use Rattle.txhz.proofs.writing.put_receipt.Goals as goal

pub returns : goal.returns
returns c =
    let a = c.args in
    let at = a.at in
    let t = a.t in
    put_in_lem _ (at + 24) 8 t.receipt_minute c.put-4.ensures
    ∙ ap (λ s. put_in s (at + 24) 8 t.receipt_minute) (put_in_lem _ (at + 16) 8 t.receipt_hour c.put-3.ensures
    ∙ ap (λ s. put_in s (at + 16) 8 t.receipt_hour) (put_in_lem _ (at + 8) 8 t.sent_minute c.put-2.ensures
    ∙ ap (λ s. put_in s (at + 8) 8 t.sent_minute) (put_in_lem a.buf.now at 8 t.sent_hour c.put.ensures)))
