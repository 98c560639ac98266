-- `shown` goes by whether the reason's number tells a bit.
use mathlib.Core.Path.{sym, ◌∙◌}
use mathlib.Core.Bool.{cond}
use Rattle.format.specs.Refusals.{number}
use Rattle.format.proofs.Refusal.shown.Goals as goal

pub returns-then-tells : goal.returns-then-tells
returns-then-tells c =
    let a = c.args in
    let e = sym c.if-tells.true ∙ c.tells.ensures in
    λ i. record { code = number a.reason; bit = cond (e i) a.bit 0 }

pub returns : goal.returns
returns c =
    let a = c.args in
    let e = sym c.if-tells.false ∙ c.tells.ensures in
    c.into.ensures ∙ (λ i. record { code = number a.reason; bit = cond (e i) a.bit 0 })
