-- `read` is the fields behind the first tests, or what these refused.
use Rattle.std.proofs.Common.{sym, ap, ◌∙◌, []}
use Rattle.bits.specs.Bits.{bits_of}
use Rattle.frame.specs.Laws.Sound.{first_size}
use Rattle.format.specs.Fmt.{also, read}
use Rattle.format.specs.Promises.{plain}
use Rattle.format.specs.Refusals.{code_of}
use Rattle.format.specs.Laws.Lead.{read_first, exact_fields}
use Rattle.format.specs.Laws.Outcomes.{led_exit}
use Rattle.gljc.specs.Gljc.{letters, gljc, gljcs, record_of}
use Rattle.gljc.proofs.reading.read.Goals as goal

pub returns-in_err-first : goal.returns-in_err-first
unfolding gljcs
returns-in_err-first c = led_exit record_of gljcs c.args.s.now c.from_residual.result _ c.from_residual.ensures.1 c.in_err-first.ensures

pub returns : goal.returns
unfolding gljcs
returns c =
    let s = c.args.s.now in
    let passed = ap code_of (sym c.in_ok-first.was) ∙ c.first.ensures in
    c.fields.ensures
    ∙ ap (λ o. plain (also record_of o)) (exact_fields gljc 11 c.inner.result.now (first_size letters 12 s passed c.inner.ensures))
    ∙ ap (λ b. plain (also record_of (read gljc [] 0 (bits_of b)))) c.inner.ensures
    ∙ ap (λ o. plain (also record_of o)) (sym (read_first gljcs s passed))
