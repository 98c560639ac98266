-- `bits_there`: bits that are cut are fewer than w, so that counting them cannot overflow.
use Rattle.std.proofs.Common.{◌+◌, ◌*◌, ◌<◌, sym, ◌∙◌, arith, leb-false, leb-true}
use Rattle.walk.proofs.pieces.bits_there.Goals.{Else-lies_within}
use Rattle.walk.proofs.pieces.bits_there.Goals as goal

pub returns-then-lies_within : goal.returns-then-lies_within
returns-then-lies_within c =
    let a = c.args in
    omega (arith, leb-true (a.at + a.w) (a.len * 8) (sym c.lies_within.ensures ∙ c.if-lies_within.true))

pub returns-then-len-at : goal.returns-then-len-at
returns-then-len-at c = omega (arith, c.if-len-at.true)

cut : (c : Else-lies_within) → let a = c.args in a.len * 8 < a.at + a.w
cut c = let a = c.args in leb-false (a.at + a.w) (a.len * 8) (sym c.lies_within.ensures ∙ c.if-lies_within.false)

pub overflow_sub-result : goal.overflow_sub-result
overflow_sub-result c = omega (arith, c.if-len-at.false)

pub overflow_mul-result : goal.overflow_mul-result
overflow_mul-result c = omega (arith, cut (goal.at.overflow_mul-result c).Else-lies_within, c.ranges.w.fits)

pub overflow_sub-result-2 : goal.overflow_sub-result-2
overflow_sub-result-2 c = omega (arith, c.if-len-at.false)

pub returns : goal.returns
returns c = omega (arith, cut (goal.at.returns c).Else-lies_within, c.if-len-at.false)
