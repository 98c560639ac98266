-- `closing` tests the fill bits, then that nothing is left.
use Rattle.std.proofs.Common.{◌+◌, ◌/◌, ◌%◌, length, sym, ap, ◌∙◌, eq-eqb, ne_eqb}
use Rattle.bits.specs.Answers.{got}
use Rattle.format.specs.Fmt.{pad}
use Rattle.walk.specs.Faults.{closes}
use Rattle.walk.proofs.faults.closing.Goals as goal

pub returns-then-get-ne0 : goal.returns-then-get-ne0
unfolding closes
returns-then-get-ne0 c =
    let a = c.args in
    let e = c.get.ensures ∙ ap (got a.s.now a.at) c.padding.ensures in
    rw (ne_eqb (got a.s.now a.at (pad a.at)) 0 (λ z. c.if-get-ne0.true (e ∙ z)))

pub returns-then-at-s : goal.returns-then-at-s
unfolding closes
returns-then-at-s c =
    let a = c.args in
    let e = c.get.ensures ∙ ap (got a.s.now a.at) c.padding.ensures in
    rw (eq-eqb (got a.s.now a.at (pad a.at)) 0 (sym e ∙ c.if-get-ne0.false), ne_eqb (a.at / 8 + (a.at % 8 + 7) / 8) (length a.s.now) c.if-at-s.true)

pub returns : goal.returns
unfolding closes
returns c =
    let a = c.args in
    let e = c.get.ensures ∙ ap (got a.s.now a.at) c.padding.ensures in
    rw (eq-eqb (got a.s.now a.at (pad a.at)) 0 (sym e ∙ c.if-get-ne0.false), eq-eqb (a.at / 8 + (a.at % 8 + 7) / 8) (length a.s.now) c.if-at-s.false)
