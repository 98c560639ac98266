-- `passed_fields` gives what `fields` walked, or the walk's refusal.
use mathlib.Core.Path.{◌≡◌, ap, ◌∙◌}
use Rattle.std.specs.Prelude.{Result, Ok, Err, IsErrAnd}
use Rattle.format.specs.Refusals.{shown, seen_refusal}
use Rattle.format.specs.declared.Refusal.{Refusal}
use Rattle.notice.specs.Steps.{Course, Gives}
use Rattle.notice.specs.declared.reading.Course.{Course as Declared}
use Rattle.notice.proofs.reading.passed_fields.Goals as goal

-- what is refused gives the walk's refusal
gives_refused : (k : Course) (x : Result Declared Refusal) {P : Refusal → Type 0} → IsErrAnd x P → ((f : Refusal) → P f → seen_refusal f ≡ shown k.walk.code k.walk.offset) → Gives k x
gives_refused k (Ok f) h e = absurd h
gives_refused k (Err f) h e = (e f h, tt)

pub returns-in_err-passed : goal.returns-in_err-passed
returns-in_err-passed c =
    gives_refused _ c.from_residual.result c.from_residual.ensures.1 (λ f e. ap seen_refusal e ∙ c.in_err-passed.ensures ∙ ap (λ (k : Course). shown k.walk.code k.walk.offset) c.fields-f.ensures)

pub returns : goal.returns
returns c = (c.in_ok-passed.ensures ∙ ap (λ (k : Course). shown k.walk.code k.walk.offset) c.fields-f.ensures, c.fields-f.ensures)
