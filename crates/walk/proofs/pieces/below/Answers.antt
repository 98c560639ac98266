-- `below`: a number of 64 bits is its own remainder by 64 bits or more.
use Rattle.std.proofs.Common.{◌≡◌, ℕ, ◌*◌, ◌%◌, ◌^◌, ◌<◌, sym, ap, ◌∙◌, lt_of_lt_of_le, mod-eq_of_lt, arith, pow_pos, pow_mono, shl_exact}
use Rattle.walk.proofs.pieces.below.Goals as goal

-- 2 to the n, as the code shifts it
power : (n : ℕ) → n < 64 → (1 * 2 ^ n) % 2 ^ 64 ≡ 2 ^ n
power n l = shl_exact {a = 1} 1 n 64 (omega arith) (omega arith) ∙ omega arith

pub nonzero_rem-result : goal.nonzero_rem-result
nonzero_rem-result c = let a = c.args in omega (arith, power a.n c.if-n-lt64.true, pow_pos a.n)

pub returns-then-n-lt64 : goal.returns-then-n-lt64
returns-then-n-lt64 c = let a = c.args in ap (a.v %◌) (power a.n c.if-n-lt64.true)

pub returns : goal.returns
returns c =
    let a = c.args in
    let l : a.v < 2 ^ a.n = lt_of_lt_of_le c.ranges.v.fits (pow_mono c.if-n-lt64.false) in
    sym (mod-eq_of_lt l)
