-- `refusal` takes the arm that `refusal_of` takes.
use Rattle.std.proofs.Common.{refl, ap, ◌∙◌, arith, ne_eqb}
use Rattle.format.specs.Laws.Outcomes.{told_exit}
use Rattle.daylog.specs.Kinds.{refusal_of}
use Rattle.std.proofs.Common.{◌≡◌, ℕ, List}
use Rattle.format.specs.Fmt.{accepted}
use Rattle.format.specs.Message.{told, read_message}
use Rattle.format.specs.Promises.{read_record, refused_by, verdict_of, plain}
use Rattle.format.specs.Laws.Answers.{numbered}
use Rattle.distress.specs.Report.{reports, report_of}
use Rattle.packet.specs.Packet.{packets, record_of, answer_of}
use Rattle.daylog.proofs.kinds.refusal.Goals as goal

-- what reading a packet or a report tells
packet_told : (s : List ℕ) → verdict_of (answer_of (read_record packets record_of s)) ≡ told (read_message packets s)
packet_told s = numbered (λ r. accepted r.0) refused_by record_of verdict_of (λ r. refl) (λ c. refl) (read_message packets s)

report_told : (s : List ℕ) → verdict_of (plain (read_record reports report_of s)) ≡ told (read_message reports s)
report_told s = numbered accepted refused_by report_of verdict_of (λ r. refl) (λ c. refl) (read_message reports s)

pub returns-in-1 : goal.returns-in-1
unfolding refusal_of
returns-in-1 c = rw c.in-1.is c.refusal.ensures

pub returns-in_err-read-in-2 : goal.returns-in_err-read-in-2
unfolding refusal_of
returns-in_err-read-in-2 c = rw c.in-2.is (told_exit c.from_residual.result _ c.from_residual.ensures.1 ∙ ap verdict_of c.in_err-read-in-2.ensures ∙ packet_told c.args.body.now)

pub returns-in_ok-read-in-2 : goal.returns-in_ok-read-in-2
unfolding refusal_of
returns-in_ok-read-in-2 c = rw c.in-2.is (ap verdict_of c.in_ok-read-in-2.ensures ∙ packet_told c.args.body.now)

pub returns-in_err-read-in-3 : goal.returns-in_err-read-in-3
unfolding refusal_of
returns-in_err-read-in-3 c = rw c.in-3.is (told_exit c.from_residual-in_err-read-in-3.result _ c.from_residual-in_err-read-in-3.ensures.1 ∙ ap verdict_of c.in_err-read-in-3.ensures ∙ report_told c.args.body.now)

pub returns-in_ok-read-in-3 : goal.returns-in_ok-read-in-3
unfolding refusal_of
returns-in_ok-read-in-3 c = rw c.in-3.is (ap verdict_of c.in_ok-read-in-3.ensures ∙ report_told c.args.body.now)

pub returns-in-4 : goal.returns-in-4
unfolding refusal_of
returns-in-4 c = rw c.in-4.is c.refusal-in-4.ensures

pub returns-in_default : goal.returns-in_default
unfolding refusal_of
returns-in_default c = rw (ne_eqb c.args.kind 1 (λ z. omega arith), ne_eqb c.args.kind 2 (λ z. omega arith), ne_eqb c.args.kind 3 (λ z. omega arith), ne_eqb c.args.kind 4 (λ z. omega arith)) c.into.ensures
