-- `write` answers as the walk over the values, the size and the room decide.
use Rattle.std.proofs.Common.{refl, sym, ap, ap₂, ◌∙◌, subst}
use Rattle.format.specs.Promises.{Writes}
use Rattle.format.specs.Refusals.{bare, told_of}
use Rattle.format.specs.Laws.Outcomes.{number_some}
use Rattle.walk.specs.Laws.Making.{closing_told, write_refused, write_bare}
use Rattle.area.specs.Area.{areas, values_as}
use Rattle.area.proofs.writing.write.Goals as goal

pub returns-in-Ok : goal.returns-in-Ok
unfolding areas
returns-in-Ok c =
    let a = c.args in
    let s = a.buf.now in
    subst (Writes areas s (bare 0) _) (ap₂ (values_as a.r) c.spelled-time.ensures c.spelled-second.ensures)
    (write_bare areas _ s c.judged.ensures refl (ap told_of (sym c.in-Ok.is) ∙ c.closes.ensures) refl c.put.ensures)

pub returns-in-Err : goal.returns-in-Err
unfolding areas
returns-in-Err c =
    let a = c.args in
    let s = a.buf.now in
    subst (Writes areas s _ s) (ap₂ (values_as a.r) c.spelled-time.ensures c.spelled-second.ensures)
    (closing_told areas _ s c.judged-in-Err.ensures c.closes-in-Err.ensures, (write_refused areas _ s c.judged.ensures c.closes.ensures (λ z. number_some c.in-Err.field-0.reason (ap (λ x. (told_of x).code) (sym c.in-Err.is) ∙ z))).1)
