-- `correct` is the correction in place of every family, with the frame's fields read before and behind the change and where its fields stand by its count.
use Rattle.std.proofs.Common.{refl, ap, ◌∙◌}
use Rattle.std.specs.Prelude.{Ok}
use Rattle.format.specs.Message.{told}
use Rattle.format.proofs.Laws.Corrections.{family_exit, family_in_place, good_size}
use Rattle.txhz.specs.Txhz.{txhzs, record_of}
use Rattle.txhz.specs.Laws.Correction.{looked_stands}
use Rattle.txhz.specs.Laws.Demands.{family}
use Rattle.txhz.proofs.correcting.correct.Goals as goal

-- the frame was refused
pub returns-in_err-was : goal.returns-in_err-was
unfolding txhzs
returns-in_err-was c = family_exit txhzs record_of c.args.buf.now c.args.field c.args.value c.from_residual.result _ c.from_residual.ensures.1 c.in_err-was.ensures

pub returns : goal.returns
unfolding txhzs
returns c =
    let a = c.args in
    let s = a.buf.now in
    let (there, slim) = c.stands-spot.ensures in
    family_in_place family s (λ i. (c.slice_known-1.given i).fits) a.field a.value _ _ _ c.in_ok-was.ensures
    (looked_stands s a.field _ _ (Ok _) c.in_ok-was.ensures refl there) slim
    (λ t d least most z. z ∙ ap told (good_size txhzs t least most)) c.in_place.ensures
