-- `correct` is the correction in place of every family, with the report's fields read before and behind the change and where `stands` found the field.
use Rattle.format.specs.Message.{told}
use Rattle.format.proofs.Laws.Corrections.{family_exit, family_in_place, good_size}
use Rattle.distress.specs.Report.{reports, report_of}
use Rattle.distress.specs.Laws.Correction.{spotted}
use Rattle.distress.proofs.Laws.Demands.{family}
use Rattle.std.proofs.Common.{ap, ◌∙◌}
use Rattle.distress.proofs.correcting.correct.Goals as goal

-- the message was refused
pub returns-in_err-read : goal.returns-in_err-read
unfolding reports
returns-in_err-read c =
    let a = c.args in
    family_exit reports report_of a.buf.now a.field a.value c.from_residual.result _ c.from_residual.ensures.1 c.in_err-read.ensures

pub returns : goal.returns
unfolding reports
returns c =
    let a = c.args in
    let (there, slim) = c.stands-spot.ensures in
    family_in_place family a.buf.now (λ i. (c.slice_known-1.given i).fits) a.field a.value _ _ _ c.in_ok-read.ensures
    (λ r e. spotted r a.field ∙ there) slim
    (λ t d least most z. z ∙ ap told (good_size reports t least most)) c.in_place.ensures
