-- `correct` is the correction in place of every family, with the frame's fields read before and behind the change and where `stands` found the field, the mark by the size.
use Rattle.std.proofs.Common.{sym, ap, ◌∙◌}
use Rattle.frame.specs.Laws.Alone.{alone, beside}
use Rattle.format.specs.Message.{read_message}
use Rattle.format.specs.Promises.{read_record}
use Rattle.format.proofs.Laws.Corrections.{family_exit, family_in_place}
use Rattle.txxx.specs.Changed.{spot_by}
use Rattle.txxx.specs.Txxx.{txxxs, record_of}
use Rattle.txxx.specs.Laws.Correction.{spotted}
use Rattle.txxx.specs.Laws.Demands.{family}
use Rattle.txxx.specs.Laws.Shown.{mark_stands}
use Rattle.txxx.proofs.correcting.correct.Goals as goal

-- the frame was refused
pub returns-in_err-read : goal.returns-in_err-read
unfolding txxxs
returns-in_err-read c =
    let a = c.args in
    family_exit txxxs (λ vs. (record_of vs).0) a.buf.now a.field a.value c.from_residual.result _ c.from_residual.ensures.1 (c.in_err-read.ensures ∙ sym (alone record_of (read_message txxxs a.buf.now)))

pub returns : goal.returns
unfolding txxxs
returns c =
    let a = c.args in
    let (there, slim) = c.stands-spot.ensures in
    let (x, good) = beside (read_record txxxs record_of a.buf.now) _ c.in_ok-read.ensures in
    family_in_place family a.buf.now (λ i. (c.slice_known-1.given i).fits) a.field a.value _ _ _ good
    (λ r e. spotted r a.field ∙ ap (λ m. spot_by m a.field) (sym (c.mark.ensures ∙ mark_stands a.buf.now r e)) ∙ there) slim
    (λ t d least most z. z) c.in_place.ensures
