-- `read_slot` is one step of the walk, its limit and its refusal by whether the receipt is counted.
use mathlib.Core.Path.{ap, ap₂, ◌∙◌}
use Prim.Native.Nat.{◌*◌, ◌/◌}
use Rattle.walk.specs.Faults.{ranging}
use Rattle.walk.specs.Walk.{seen, onward}
use Rattle.walk.specs.Laws.Reading.{got_lt}
use Rattle.txhz.proofs.reading.read_slot.Goals as goal

pub returns : goal.returns
unfolding onward
returns c =
    let a = c.args in
    let s = a.s.now in
    let p = a.w.at / 8 * 8 in
    let wrong = c.range-wrong.ensures ∙ ap₂ (λ hi x. ranging s p 8 0 hi x) c.top.ensures c.fault.ensures in
    let e = c.on.ensures ∙ ap₂ (λ v x. onward 8 a.live v x 0 (seen a.w)) c.get.ensures wrong in
    (e, got_lt s p 8 (ap (λ r. r.v) e))
