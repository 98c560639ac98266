-- `bits::put` meets its contract: a value has no more bits than the field where none is left above them.
use Rattle.std.proofs.Common.{◌≡◌, ℕ, ◌/◌, ◌^◌, eqb, ltb, arith}
use Rattle.std.proofs.lemmas.Bool.Decides.{nat_tests}
use Rattle.std.proofs.lemmas.Grind.{common_steps}
use Rattle.bits.specs.Laws.Digits.{small, large}
use Rattle.bits.proofs.put.Goals as goal
use Rattle.bits.proofs.put.Goals.{then-holds, else-holds}

narrow : (v w : ℕ) → eqb (v / 2 ^ w) 0 ≡ ltb v (2 ^ w)
narrow v w = grind (arith, nat_tests, small v w, large v w)

pub returns-else-fits : goal.returns-else-fits
returns-else-fits c =
    let a = c.args in
    let e = narrow a.value a.width in
    elim c.if-holds.branch [ then-holds w ↦ grind (arith, common_steps) | else-holds w ↦ grind (arith, common_steps) ]
