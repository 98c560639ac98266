-- `read` is the fields behind the first tests, or what these refused.
use Rattle.std.proofs.Common.{sym, ap, ◌∙◌}
use Rattle.format.specs.Fmt.{also}
use Rattle.format.specs.Message.{read_message}
use Rattle.format.specs.Refusals.{code_of}
use Rattle.format.specs.Laws.Lead.{read_first, sized_fields}
use Rattle.format.specs.Laws.Outcomes.{led_exit}
use Rattle.packet.specs.Laws.Heads.{head_of, heads}
use Rattle.packet.specs.Laws.Sound.{sized}
use Rattle.packet.specs.Packet.{greatest, packet, packets, record_of, answer_of}
use Rattle.packet.proofs.reading.read.Goals as goal

pub returns-in_err-lead : goal.returns-in_err-lead
unfolding packets
returns-in_err-lead c =
    let s = c.args.s.now in
    led_exit head_of packets s c.from_residual.result _ c.from_residual.ensures.1 c.in_err-lead.ensures ∙ heads (read_message packets s)

pub returns : goal.returns
unfolding packets
returns c =
    let s = c.args.s.now in
    let passed = ap code_of (sym c.in_ok-lead.was) ∙ c.lead.ensures in
    c.fields.ensures ∙ ap (λ o. answer_of (also record_of o)) (sized_fields packet 5 greatest s (sized s (sym passed)).0 (sized s (sym passed)).1 ∙ sym (read_first packets s passed))
