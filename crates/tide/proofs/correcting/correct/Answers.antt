-- `correct` is the correction in place of every family, with the tide's walk before the change and the fields' behind it, and where the walk found the field.
use Rattle.std.specs.Prelude.{◌≡◌, refl, [], List, ℕ}
use Rattle.std.proofs.Common.{sym, ap, ◌∙◌, subst}
use Rattle.format.specs.Codes.{headed}
use Rattle.format.specs.Correcting.{standing}
use Rattle.format.specs.Fmt.{accepted, spot}
use Rattle.format.specs.Message.{told, read_message}
use Rattle.format.specs.Promises.{plain, read_record, Corrects}
use Rattle.format.specs.Laws.Correcting.{own_refusal}
use Rattle.format.specs.Laws.Outcomes.{number_some, told_exit}
use Rattle.format.specs.Laws.Round.{also_inv}
use Rattle.format.proofs.Laws.Corrections.{family_in_place}
use Rattle.format.proofs.Laws.Family.{record_values}
use Rattle.tide.specs.Record.{Whole, values_of, record_of}
use Rattle.tide.specs.Standing.{front, records_at}
use Rattle.tide.specs.Steps.{Course, course, course_of}
use Rattle.tide.specs.Tide.{tides}
use Rattle.tide.specs.Laws.Demands.{family}
use Rattle.tide.specs.Laws.Told.{fields_passed, walked_told, stands, fields_again, fields_are}
use Rattle.tide.proofs.correcting.correct.Goals as goal

-- where the walk of a telegram that was read found the field
found_so : (i : ℕ) (s : List ℕ) (f : Course) → f ≡ course_of i s → (q : Whole) → read_record tides record_of s ≡ accepted q → spot tides.fmt [] (values_of q) i ≡ standing f.walk.spot f.walk.width
found_so i s f d q e =
    let (vs, m, k) = also_inv record_of (read_message tides s) e in
    ap (λ vs. spot tides.fmt [] vs i) (ap values_of (sym k) ∙ record_values family s vs m) ∙ stands i s f d vs m

pub returns-in_err-was : goal.returns-in_err-was
returns-in_err-was c =
    let a = c.args in
    let s = a.buf.now in
    let told = c.in_err-was.ensures.told ∙ walked_told a.field s (course_of a.field s) refl in
    subst (λ v. Corrects tides s a.field a.value v s) (sym (told_exit c.from_residual.result _ c.from_residual.ensures.1)) (own_refusal tides s a.field a.value told (number_some _))

pub returns : goal.returns
unfolding tides headed
returns c =
    let a = c.args in
    let s = a.buf.now in
    let i = a.field in
    let f = course c.in_ok-was.was' in
    let x = c.in_ok-was.ensures in
    let good = fields_passed i s c.in_ok-was.was' x.told x.passed in
    family_in_place family s (λ i. (c.slice_known-1.given i).fits) i a.value _ _ (f.tide, records_at s f.tide.count front) (ap plain (sym good))
    (found_so i s f x.passed) (fields_are i s x.passed).walked.slim
    (λ t d least most z. z ∙ fields_again t most refl) c.in_place.ensures
