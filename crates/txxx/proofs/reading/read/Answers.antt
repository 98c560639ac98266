-- `read` is the fields behind the first tests, or what these refused.
use Rattle.std.proofs.Common.{sym, ap, ◌∙◌, []}
use Rattle.bits.specs.Bits.{bits_of}
use Rattle.frame.specs.Laws.Alone.{alone}
use Rattle.format.specs.Fmt.{also, read}
use Rattle.format.specs.Message.{read_message}
use Rattle.format.specs.Promises.{plain}
use Rattle.format.specs.Refusals.{code_of}
use Rattle.format.specs.Laws.Lead.{read_first}
use Rattle.format.specs.Laws.Outcomes.{led_exit}
use Rattle.txxx.specs.Txxx.{txxx, txxxs, record_of}
use Rattle.txxx.proofs.reading.read.Goals as goal

pub returns-in_err-first : goal.returns-in_err-first
unfolding txxxs
returns-in_err-first c =
    let s = c.args.s.now in
    led_exit (λ vs. (record_of vs).0) txxxs s c.from_residual.result _ c.from_residual.ensures.1 c.in_err-first.ensures ∙ alone record_of (read_message txxxs s)

pub returns : goal.returns
unfolding txxxs
returns c =
    let s = c.args.s.now in
    let passed = ap code_of (sym c.in_ok-first.was) ∙ c.first.ensures in
    c.fields.ensures
    ∙ ap (λ b. plain (also (λ r. r.0) (also record_of (read txxx [] 0 (bits_of b))))) c.inner.ensures
    ∙ ap (λ o. plain (also (λ r. r.0) (also record_of o))) (sym (read_first txxxs s passed))
