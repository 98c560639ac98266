-- `correct` is the correction in place of every family, with the warning's fields read before and behind the change and where `stands` found the field.
use Rattle.std.proofs.Common.{ap, ◌∙◌}
use Rattle.bits.specs.Bits.{Bytes, field_at}
use Rattle.format.specs.Message.{told}
use Rattle.format.proofs.Laws.Corrections.{family_exit, family_in_place, good_size}
use Rattle.warning.specs.Warning.{warnings, record_of}
use Rattle.warning.specs.Changed.{field_of}
use Rattle.warning.specs.Laws.Demands.{family, looked_stands}
use Rattle.warning.proofs.correcting.correct.Goals as goal

-- the message was refused
pub returns-in_err-read : goal.returns-in_err-read
unfolding warnings
returns-in_err-read c =
    let a = c.args in
    family_exit warnings record_of a.buf.now (field_of (field_at a.buf.now 56 4) a.field) a.value c.from_residual.result _ c.from_residual.ensures.1 c.in_err-read.ensures

pub returns : goal.returns
unfolding warnings
returns c =
    let a = c.args in
    let s = a.buf.now in
    let (there, slim) = c.stands-spot.ensures in
    let fine : Bytes s = λ i. (c.slice_known-1.given i).fits in
    family_in_place family s fine (field_of (field_at s 56 4) a.field) a.value _ _ _ c.in_ok-read.ensures
    (looked_stands s a.field c.get.result fine c.get.ensures there) slim
    (λ t d least most z. z ∙ ap told (good_size warnings t least most)) c.in_place.ensures
