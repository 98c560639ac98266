-- `good_entry` tells what `fit` found, and what `good` found of the number that the three spell.
use Rattle.std.proofs.Common.{◌+◌, ◌*◌, ◌^◌, ◌∙◌, subst, arith}
use Rattle.tide.specs.Entries.{Good}
use Rattle.tide.proofs.writing.entries.good_entry.Goals as goal

pub packed-requires : goal.packed-requires
packed-requires c = c.fit.ensures c.if-fit.true

pub returns-then-fit : goal.returns-then-fit
returns-then-fit c e =
    let f = c.fit.ensures c.if-fit.true in
    let same = c.packed.ensures ∙ (λ i. (c.from-time.ensures i * 2 ^ 1 + c.from-sign.ensures i) * 2 ^ 10 + c.from-value.ensures i) in
    (omega arith, omega arith, omega arith, subst Good same (c.good.ensures e))
