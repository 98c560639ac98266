-- `write` answers as the judging, the size and the room decide; then all of it is put.
use Rattle.std.proofs.Common.{refl, sym, subst}
use Rattle.format.specs.Laws.Outcomes.{number_some, told_exit}
use Rattle.walk.specs.Walk.{stepped}
use Rattle.tide.specs.WritingPromises.{TideWrites}
use Rattle.tide.specs.Laws.Writing.{tide_refused, tide_stands}
use Rattle.tide.proofs.writing.write.Goals as goal

pub returns-in_err-closes : goal.returns-in_err-closes
returns-in_err-closes c =
    let a = c.args in
    let told = told_exit c.from_residual.result _ c.from_residual.ensures.1 in
    subst (λ v. TideWrites a.buf.now a.r a.row.now v a.buf.now) (sym told)
    (tide_refused a.buf.now a.r a.row.now (stepped c.judged-judged.result) c.judged-judged.ensures c.room-room.ensures c.in_err-closes.ensures (number_some _))

pub returns : goal.returns
returns c =
    let a = c.args in
    tide_stands a.buf.now a.r a.row.now (stepped c.judged-judged.result) c.judged-judged.ensures c.room-room.ensures c.in_ok-closes.ensures refl c.put.ensures
