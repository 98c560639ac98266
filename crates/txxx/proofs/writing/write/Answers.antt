-- `write` answers as the walk over the values, the size made and the room decide.
use Rattle.std.proofs.Common.{refl}
use Rattle.walk.specs.Laws.Making.{closes_exit, write_stamped}
use Rattle.txxx.specs.Txxx.{txxxs, values_of}
use Rattle.txxx.proofs.writing.write.Goals as goal

pub returns-in_err-closes : goal.returns-in_err-closes
unfolding txxxs
returns-in_err-closes c =
    let a = c.args in
    closes_exit txxxs (values_of (a.r, a.content.now)) a.buf.now c.judged-w.ensures c.from_residual.result _ c.from_residual.ensures.1 c.in_err-closes.ensures

pub returns : goal.returns
unfolding txxxs
returns c =
    let a = c.args in
    write_stamped txxxs (values_of (a.r, a.content.now)) a.buf.now c.judged-w.ensures refl c.in_ok-closes.ensures refl c.put.ensures c.put.auto.buf c.bytes-n.ensures c.stamp.ensures
