-- `begin` answers what `heading` made.
use Rattle.std.proofs.Common.{◌≡◌, not, eqb, true, false, sym, ap, ◌∙◌, ne_eqb}
use Rattle.std.proofs.Math.Path.{subst⁻¹}
use Rattle.format.specs.Refusals.{number}
use Rattle.format.specs.Laws.Outcomes.{number_some}
use Rattle.daylog.specs.Turns.{Begins, stopped}
use Rattle.daylog.proofs.Turning.{began}
use Rattle.daylog.proofs.turns.begin.Goals as goal

pub returns-in-Ok : goal.returns-in-Ok
returns-in-Ok c = subst⁻¹ (λ r. Begins c.args.text.now r c.heading.new.out) c.on.ensures (began c.in-Ok.ensures)

pub returns-in-Err : goal.returns-in-Err
returns-in-Err c =
    let n = number c.in-Err.reason in
    let over : true ≡ not (eqb n 0) = sym (ap not (ne_eqb n 0 (number_some c.in-Err.reason))) in
    subst⁻¹ (λ r. Begins c.args.text.now r c.heading.new.out)
    (c.stop.ensures ∙ ap (λ t. stopped t n 0) c.on-in-Err.ensures ∙ ap (λ b. record { made = 0; done = b; code = n; number = 1; waiting = 0; broken = false; left = 0 }) over) (began c.in-Err.ensures)
