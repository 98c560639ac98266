-- `above`: a number of 64 bits has nothing above 64 bits or more.
use Rattle.std.proofs.Common.{◌^◌, ◌<◌, sym, lt_of_lt_of_le, pow_mono}
use native.Mathlib.Nat.{div-eq_of_lt}
use Rattle.walk.proofs.pieces.above.Goals as goal

pub returns-else-n-lt64 : goal.returns-else-n-lt64
returns-else-n-lt64 c =
    let a = c.args in
    let l : a.v < 2 ^ a.n = lt_of_lt_of_le c.ranges.v.fits (pow_mono c.if-n-lt64.false) in
    sym (div-eq_of_lt l)
