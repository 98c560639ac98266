-- `read` is the fields behind the first tests, or what these refused.
use Rattle.std.proofs.Common.{sym, ap, ◌∙◌}
use Rattle.format.specs.Fmt.{also}
use Rattle.format.specs.Promises.{plain}
use Rattle.format.specs.Refusals.{code_of}
use Rattle.format.specs.Laws.Outcomes.{led_exit}
use Rattle.format.specs.Laws.Lead.{read_first, exact_fields}
use Rattle.warning.specs.Warning.{warning, warnings, record_of}
use Rattle.warning.specs.Laws.Sound.{sized}
use Rattle.warning.proofs.reading.read.Goals as goal

pub returns-in_err-lead : goal.returns-in_err-lead
unfolding warnings
returns-in_err-lead c = led_exit record_of warnings c.args.s.now c.from_residual.result _ c.from_residual.ensures.1 c.in_err-lead.ensures

pub returns : goal.returns
unfolding warnings
returns c =
    let s = c.args.s.now in
    let passed = ap code_of (sym c.in_ok-lead.was) ∙ c.lead.ensures in
    c.fields.ensures ∙ ap (λ o. plain (also record_of o)) (exact_fields warning 23 s (sized s (sym passed)) ∙ sym (read_first warnings s passed))
