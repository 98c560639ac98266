-- `good_from` meets its contract: the entries that are passed are good.
use Prim.Native.Nat.{◌+◌, ◌*◌, ◌/◌, ◌%◌}
use mathlib.Core.Path.{◌≡◌, ap, ◌∙◌}
use native.Mathlib.Omega.{arith}
use Rattle.tide.specs.Entries.{word_at}
use Rattle.tide.specs.Row.{entry_bits}
use Rattle.tide.specs.Laws.Entries.{good_more}
use Rattle.tide.proofs.entries.good_from.Goals as goal

pub loop-j-init : goal.loop-j-init
loop-j-init c i l = absurd (omega arith)

pub loop-j-preserved : goal.loop-j-preserved
loop-j-preserved c =
    let a = c.args in
    let s = a.s.now in
    let j = c.loop-j.j in
    let here : (a.at / 8 + j * 4) * 8 + a.at % 8 ≡ a.at + j * entry_bits = omega arith in
    good_more s a.at j c.loop-j.invariant (omega arith) (c.word_of_five-bits.ensures ∙ ap (word_at s) here) (c.good.ensures c.if-not-good.false)

pub returns : goal.returns
returns c = (omega arith, λ i l. c.loop-j.invariant i (omega arith))
