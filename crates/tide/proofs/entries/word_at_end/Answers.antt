-- `word_at_end` meets its contract: each field is as wide as it is got.
use Prim.Native.Nat.{◌^◌, ◌<◌}
use native.Mathlib.Omega.{arith}
use Rattle.walk.specs.Laws.Reading.{got_lt}
use Rattle.tide.proofs.entries.word_at_end.Goals.{After-get-value}
use Rattle.tide.proofs.entries.word_at_end.Goals as goal

narrow : (c : After-get-value) → (c.get-time.result < 2 ^ 21) × (c.get-sign.result < 2) × (c.get-value.result < 2 ^ 10)
narrow c =
    let s = c.args.s.now in
    (got_lt s _ 21 c.get-time.ensures, got_lt s _ 1 c.get-sign.ensures, got_lt s _ 10 c.get-value.ensures)

pub overflow_mul-result : goal.overflow_mul-result
overflow_mul-result c = omega (arith, narrow c)

pub overflow_mul-result-2 : goal.overflow_mul-result-2
overflow_mul-result-2 c = omega (arith, narrow c)

pub overflow_add-result : goal.overflow_add-result
overflow_add-result c = omega (arith, narrow c)

pub overflow_add-result-2 : goal.overflow_add-result-2
overflow_add-result-2 c = omega (arith, narrow c)
