-- `write` answers as the walk over the head, the content's size and the room decide.
use Rattle.std.proofs.Common.{refl}
use Rattle.walk.specs.Laws.Making.{closes_exit, write_bare}
use Rattle.packet.specs.Packet.{packets, values_of}
use Rattle.packet.proofs.writing.write.Goals as goal

pub returns-in_err-closes_before : goal.returns-in_err-closes_before
unfolding packets
returns-in_err-closes_before c =
    let a = c.args in
    closes_exit packets (values_of (a.r, a.content.now)) a.buf.now (c.judged-w.ensures a.content.now) c.from_residual.result _ c.from_residual.ensures.1 c.in_err-closes_before.ensures

pub returns : goal.returns
unfolding packets
returns c =
    let a = c.args in
    write_bare packets (values_of (a.r, a.content.now)) a.buf.now (c.judged-w.ensures a.content.now) refl c.in_ok-closes_before.ensures refl c.put.ensures
