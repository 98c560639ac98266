-- `write` answers as the walk over the values, the size made and the room decide.
use Rattle.std.proofs.Common.{refl, sym, ◌∙◌}
use Rattle.frame.specs.Laws.Alone.{refused_told, passed_told}
use Rattle.walk.specs.Laws.Making.{write_refused, write_stamped}
use Rattle.txhz.specs.Txhz.{txhzs, values_of}
use Rattle.txhz.proofs.writing.write.Goals as goal

pub returns-then-is_err : goal.returns-then-is_err
unfolding txhzs
returns-then-is_err c =
    let a = c.args in
    let fails = refused_told c.closes.result (sym c.is_err.ensures.value ∙ c.if-is_err.true) in
    (c.refused.ensures a.buf.now refl, (write_refused txhzs (values_of a.r) a.buf.now c.judged-w.ensures c.closes.ensures fails).1)

pub returns : goal.returns
unfolding txhzs
returns c =
    let a = c.args in
    let stands = passed_told c.closes.result (sym c.is_err.ensures.value ∙ c.if-is_err.false) in
    write_stamped txhzs (values_of a.r) a.buf.now c.judged-w.ensures refl c.closes.ensures stands c.put.ensures c.put.auto.buf c.bytes-n.ensures c.stamp.ensures
