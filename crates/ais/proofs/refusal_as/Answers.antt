-- `refusal_as` takes the reading that the message's number names.
use Rattle.std.proofs.Common.{refl, ap, ◌∙◌, arith, eq-eqb, ne_eqb}
use Rattle.format.specs.Fmt.{accepted}
use Rattle.format.specs.Message.{read_message}
use Rattle.format.specs.Promises.{refused_by, verdict_of}
use Rattle.format.specs.Laws.Answers.{numbered}
use Rattle.format.specs.Laws.Outcomes.{told_exit}
use Rattle.area.specs.Area.{areas, record_of as area_of}
use Rattle.warning.specs.Warning.{warnings, record_of as warning_of}
use Rattle.ais.specs.Ais.{refusal_as}
use Rattle.ais.proofs.refusal_as.Goals as goal

pub returns-in_err-read-in-6 : goal.returns-in_err-read-in-6
unfolding refusal_as
returns-in_err-read-in-6 c =
    let a = c.args in
    rw (eq-eqb a.message 6 c.in-6.is) (told_exit c.from_residual.result _ c.from_residual.ensures.1 ∙ ap verdict_of c.in_err-read-in-6.ensures ∙ numbered accepted refused_by area_of verdict_of (λ r. refl) (λ c. refl) (read_message areas a.s.now))

pub returns-in_ok-read-in-6 : goal.returns-in_ok-read-in-6
unfolding refusal_as
returns-in_ok-read-in-6 c =
    let a = c.args in
    rw (eq-eqb a.message 6 c.in-6.is) (ap verdict_of c.in_ok-read-in-6.ensures ∙ numbered accepted refused_by area_of verdict_of (λ r. refl) (λ c. refl) (read_message areas a.s.now))

pub returns-in_err-read-in-8 : goal.returns-in_err-read-in-8
unfolding refusal_as
returns-in_err-read-in-8 c =
    let a = c.args in
    rw (c.in-8.is) (told_exit c.from_residual-in_err-read-in-8.result _ c.from_residual-in_err-read-in-8.ensures.1 ∙ ap verdict_of c.in_err-read-in-8.ensures ∙ numbered accepted refused_by warning_of verdict_of (λ r. refl) (λ c. refl) (read_message warnings a.s.now))

pub returns-in_ok-read-in-8 : goal.returns-in_ok-read-in-8
unfolding refusal_as
returns-in_ok-read-in-8 c =
    let a = c.args in
    rw (c.in-8.is) (ap verdict_of c.in_ok-read-in-8.ensures ∙ numbered accepted refused_by warning_of verdict_of (λ r. refl) (λ c. refl) (read_message warnings a.s.now))

pub returns-in_default : goal.returns-in_default
unfolding refusal_as
returns-in_default c =
    let a = c.args in
    rw (ne_eqb a.message 6 (λ e. omega (arith, e)), ne_eqb a.message 8 (λ e. omega (arith, e))) c.into.ensures
