-- `write` answers as the walk over the values, the size and the room decide.
use Rattle.std.proofs.Common.{refl, sym, ap, ◌∙◌, subst}
use Rattle.format.specs.Promises.{Writes}
use Rattle.format.specs.Refusals.{bare, told_of}
use Rattle.format.specs.Laws.Outcomes.{number_some}
use Rattle.walk.specs.Laws.Making.{closing_told, write_refused, write_bare}
use Rattle.warning.specs.Warning.{warnings, values_as}
use Rattle.warning.proofs.writing.write.Goals as goal

pub returns-in-Ok : goal.returns-in-Ok
unfolding warnings
returns-in-Ok c =
    let a = c.args in
    let s = a.buf.now in
    subst (λ t. Writes warnings s (bare 0) c.put.new.buf (values_as a.r t)) c.spelled-time.ensures
    (write_bare warnings _ s c.judged.ensures refl (ap told_of (sym c.in-Ok.is) ∙ c.closes.ensures) refl c.put.ensures)

pub returns-in-Err : goal.returns-in-Err
unfolding warnings
returns-in-Err c =
    let a = c.args in
    let s = a.buf.now in
    subst (λ t. Writes warnings s (told_of c.closes-in-Err.result) s (values_as a.r t)) c.spelled-time.ensures
    (closing_told warnings _ s c.judged-in-Err.ensures c.closes-in-Err.ensures, (write_refused warnings _ s c.judged.ensures c.closes.ensures (λ z. number_some c.in-Err.field-0.reason (ap (λ x. (told_of x).code) (sym c.in-Err.is) ∙ z))).1)
