-- `correct` is the correction in place of every family, with the packet's fields read before and behind the change and where `stands` found the field.
use Rattle.std.proofs.Common.{sym, refl, ap, ◌∙◌}
use Rattle.format.specs.Fmt.{accepted}
use Rattle.format.specs.Message.{told, read_message}
use Rattle.format.specs.Promises.{read_record, refused_by, plain}
use Rattle.format.specs.Laws.Answers.{good_accepts}
use Rattle.format.proofs.Laws.Corrections.{family_exit, family_in_place, good_size}
use Rattle.packet.specs.Packet.{packets, record_of}
use Rattle.packet.specs.Laws.Correction.{spotted}
use Rattle.packet.specs.Laws.Demands.{family}
use Rattle.packet.specs.Laws.Heads.{head_of, heads}
use Rattle.packet.proofs.correcting.correct.Goals as goal

-- the message was refused
pub returns-in_err-read : goal.returns-in_err-read
unfolding packets
returns-in_err-read c =
    let a = c.args in
    family_exit packets head_of a.buf.now a.field a.value c.from_residual.result _ c.from_residual.ensures.1 (c.in_err-read.ensures ∙ sym (heads (read_message packets a.buf.now)))

pub returns : goal.returns
unfolding packets
returns c =
    let a = c.args in
    let s = a.buf.now in
    let (there, slim) = c.stands-spot.ensures in
    let (r, is, same) = good_accepts accepted refused_by (λ o. o) (λ q. refl) (λ c. refl) (λ r. r.0) (read_record packets record_of s) c.in_ok-read.ensures in
    family_in_place family s (λ i. (c.slice_known-1.given i).fits) a.field a.value _ _ r (ap plain (sym is))
    (λ r e. spotted r a.field ∙ there) slim
    (λ t d least most z. z ∙ ap told (good_size packets t least most)) c.in_place.ensures
