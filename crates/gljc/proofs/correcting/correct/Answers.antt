-- `correct` is the correction in place of every family, with the frame's fields read before and behind the change and where `stands` found the field.
use Rattle.std.proofs.Common.{ap, ◌∙◌}
use Rattle.format.specs.Message.{told}
use Rattle.format.proofs.Laws.Corrections.{family_exit, family_in_place, good_size}
use Rattle.gljc.specs.Gljc.{gljcs, record_of}
use Rattle.gljc.specs.Laws.Correction.{spotted}
use Rattle.gljc.specs.Laws.Demands.{family}
use Rattle.gljc.proofs.correcting.correct.Goals as goal

-- the frame was refused
pub returns-in_err-read : goal.returns-in_err-read
unfolding gljcs
returns-in_err-read c =
    let a = c.args in
    family_exit gljcs record_of a.buf.now a.field a.value c.from_residual.result _ c.from_residual.ensures.1 c.in_err-read.ensures

pub returns : goal.returns
unfolding gljcs
returns c =
    let a = c.args in
    let (there, slim) = c.stands-spot.ensures in
    family_in_place family a.buf.now (λ i. (c.slice_known-1.given i).fits) a.field a.value _ _ _ c.in_ok-read.ensures
    (λ r e. spotted r a.field ∙ there) slim
    (λ t d least most z. z ∙ ap told (good_size gljcs t least most)) c.in_place.ensures
