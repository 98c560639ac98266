-- `refusal` is what the walk's refusal tells.
use mathlib.Core.Path.{refl, ◌∙◌}
use Rattle.format.specs.Laws.Outcomes.{told_exit}
use Rattle.notice.specs.Steps.{course_of}
use Rattle.notice.proofs.Laws.Told.{walked_refusal}
use Rattle.notice.proofs.reading.refusal.Goals as goal

pub returns-in_err-passed_fields : goal.returns-in_err-passed_fields
returns-in_err-passed_fields c = let a = c.args in
    told_exit c.from_residual.result _ c.from_residual.ensures.1 ∙ walked_refusal a.english 0 a.s.now (course_of a.english 0 a.s.now) refl c.in_err-passed_fields.ensures.0

pub returns : goal.returns
returns c = let a = c.args in walked_refusal a.english 0 a.s.now (course_of a.english 0 a.s.now) refl c.in_ok-passed_fields.ensures.0
