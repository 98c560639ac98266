-- `read_receipt` is four steps of the walk.
use mathlib.Core.Path.{ap, ◌∙◌}
use Rattle.txhz.specs.Steps.{slot_read_of, receipt_read}
use Rattle.txhz.proofs.reading.read_receipt.Goals as goal

pub returns : goal.returns
unfolding receipt_read
returns c =
    let a = c.args in
    let s = a.s.now in
    let e1 = c.read_slot-w.ensures.0 in
    let e2 = c.read_slot-w-2.ensures.0 ∙ ap (slot_read_of s a.live 59) e1 in
    let e3 = c.read_slot-w-3.ensures.0 ∙ ap (slot_read_of s a.live 23) e2 in
    let e4 = c.read_slot-w-4.ensures.0 ∙ ap (slot_read_of s a.live 59) e3 in
    λ i. record { walk = e4 i; receipt = record { sent_hour = (e1 i).v; sent_minute = (e2 i).v; receipt_hour = (e3 i).v; receipt_minute = (e4 i).v } }
