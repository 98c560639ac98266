-- `correct` is the correction in place of every family, with the frame's fields read before and behind the change and where `stands` found the field.
use Rattle.std.proofs.Common.{sym, ◌∙◌}
use Rattle.frame.specs.Laws.Alone.{alone, beside}
use Rattle.format.specs.Message.{read_message}
use Rattle.format.specs.Promises.{read_record}
use Rattle.format.proofs.Laws.Corrections.{family_exit, family_in_place}
use Rattle.txsq.specs.Txsq.{txsqs, record_of}
use Rattle.txsq.specs.Laws.Correction.{spotted}
use Rattle.txsq.specs.Laws.Demands.{family}
use Rattle.txsq.proofs.correcting.correct.Goals as goal

-- the frame was refused
pub returns-in_err-read : goal.returns-in_err-read
unfolding txsqs
returns-in_err-read c =
    let a = c.args in
    family_exit txsqs (λ vs. (record_of vs).0) a.buf.now a.field a.value c.from_residual.result _ c.from_residual.ensures.1 (c.in_err-read.ensures ∙ sym (alone record_of (read_message txsqs a.buf.now)))

pub returns : goal.returns
unfolding txsqs
returns c =
    let a = c.args in
    let (there, slim) = c.stands-spot.ensures in
    let (x, good) = beside (read_record txsqs record_of a.buf.now) _ c.in_ok-read.ensures in
    family_in_place family a.buf.now (λ i. (c.slice_known-1.given i).fits) a.field a.value _ _ _ good
    (λ r e. spotted r a.field ∙ there) slim
    (λ t d least most z. z) c.in_place.ensures
