-- `position` meets its contract: by the position type.
use mathlib.Core.Path.{refl, ap, ◌∙◌}
use borrow.Author.Tests.{eq-eqb, ne_eqb}
use Rattle.walk.specs.Walk.{Walk}
use Rattle.notice_fields.specs.PartsSteps.{longitude_read}
use Rattle.tide.proofs.records.position.Goals as goal

pub returns-then-kind-eq-PORT : goal.returns-then-kind-eq-PORT
returns-then-kind-eq-PORT c =
    let a = c.args in
    c.num.ensures.0 ∙ rw (eq-eqb a.kind.v 0 c.if-kind-eq-PORT.true) refl

pub returns : goal.returns
returns c =
    let a = c.args in
    c.longitude.ensures.0 ∙ ap (λ (r : Walk). longitude_read a.s.now r) c.latitude-latitude.ensures.0 ∙ rw (ne_eqb a.kind.v 0 c.if-kind-eq-PORT.false) refl
