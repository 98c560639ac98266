-- `correct` is the correction in place of every family, with the notice's fields read before and behind the change and where `stands` found the field.
use Rattle.std.specs.Prelude.{◌≡◌, ◌≤◌, Bool, List, [], ℕ, length}
use Rattle.std.proofs.Common.{le-leb}
use mathlib.Core.Path.{refl, sym, ap, ◌∙◌}
use Rattle.bits.specs.Bits.{bytes_at}
use Rattle.format.specs.Fmt.{check, also, spot}
use Rattle.format.specs.Laws.Lead.{read_first}
use Rattle.format.specs.Laws.Outcomes.{number_some}
use Rattle.format.specs.Laws.Round.{also_inv}
use Rattle.format.specs.Message.{fault, told, read_message}
use Rattle.format.specs.Promises.{plain, refused_by}
use Rattle.format.proofs.Laws.Corrections.{family_exit, family_in_place}
use Rattle.format.proofs.Laws.Family.{record_values}
use Rattle.packet.specs.Packet.{joined}
use Rattle.notice_fields.specs.Standing.{front, areas_at}
use Rattle.notice.specs.Notice.{ours, notice, notices, sizes}
use Rattle.notice.specs.Record.{values_of, record_of}
use Rattle.notice.specs.Steps.{Course, course, course_of, fields_read}
use Rattle.notice.proofs.Laws.Demands.{family}
use Rattle.notice.proofs.Laws.Told.{walked_good, walked_bad, walked_refusal, stands, fields_are}
use Rattle.notice.proofs.correcting.correct.Goals as goal

-- a message of a good size is read by its fields
sized : (english : Bool) (t : List ℕ) → 8 ≤ length t → length t ≤ joined → read_message (notices (ours english)) t ≡ fields_read english t
unfolding notices
sized english t least most =
    let good : sizes t ≡ 0 = rw (le-leb 8 (length t) least, le-leb (length t) joined most) refl in
    read_first (notices (ours english)) t refl ∙ ap (λ c. check (fault c) 0 (fields_read english t)) good

-- the message was refused
pub returns-in_err-course : goal.returns-in_err-course
returns-in_err-course c =
    let a = c.args in
    let s = a.buf.now in
    let is = c.in_err-course.ensures.0 in
    let n = walked_bad a.english a.field s (course_of a.english a.field s) refl (λ z. number_some _ (ap (λ v. v.code) is ∙ z)) in
    family_exit (notices (ours a.english)) record_of s a.field a.value c.from_residual.result _ c.from_residual.ensures.1 (ap refused_by is ∙ sym (ap (λ o. plain (also record_of o)) n))

-- the walk finds no wide field
pub stands-spot-requires : goal.stands-spot-requires
stands-spot-requires c = let a = c.args in (fields_are a.english a.field a.buf.now c.in_ok-course.ensures.1).walked.slim

pub returns : goal.returns
unfolding notices
returns c =
    let a = c.args in
    let e = a.english in
    let i = a.field in
    let s = a.buf.now in
    let f = c.in_ok-course.course in
    let d = c.in_ok-course.ensures.1 in
    let clear = ap (λ (k : Course). k.walk.code) d ∙ sym (ap (λ v. v.code) c.in_ok-course.ensures.0) in
    let (there, slim) = c.stands-spot.ensures in
    family_in_place (family (ours e)) s (λ i. (c.slice_known-1.given i).fits) i a.value _ _ (f.notice, (areas_at s f.notice.count front, bytes_at s f.at f.text)) (sym (ap plain (walked_good e i s (course f) d clear)))
    (λ q k.
    let (vs, m, is) = also_inv record_of (read_message (notices (ours e)) s) k in
    ap (λ vs. spot (notice (ours e)) [] vs i) (ap values_of (sym is) ∙ record_values (family (ours e)) s vs m) ∙ stands e i s (course f) d vs m ∙ there)
    slim
    (λ t d least most z. walked_refusal e 0 t (course_of e 0 t) refl z ∙ ap told (sized e t least most)) c.in_place.ensures
