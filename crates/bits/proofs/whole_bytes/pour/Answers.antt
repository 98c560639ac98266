-- `whole_bytes::pour` meets its contract: its three parts are put in one behind the other (`poured`).
use Rattle.std.proofs.Common.{arith}
use Rattle.bits.proofs.Pouring.{poured}
use Rattle.bits.proofs.whole_bytes.pour.Goals as goal

pub returns : goal.returns
returns c =
    let a = c.args in
    poured a.buf.now a.at a.t.now (omega arith) (omega arith)
    c.get.result c.get-2.result c.put.result c.put-2.result c.put.new.s c.slide.new.out c.put-2.new.s
    c.get.ensures c.put.ensures c.slide.ensures c.get-2.ensures c.put-2.ensures
    (λ i. (c.type_inv.buf i).fits)
