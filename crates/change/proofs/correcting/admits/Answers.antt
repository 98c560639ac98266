-- `admits`: a field that may be corrected takes a value that its bits hold; one of 64 bits holds each.
use Rattle.std.proofs.Common.{◌^◌, ◌<◌, refl, arith, lt_of_lt_of_le, pow_mono, ne_eqb}
use borrow.Author.Tests.{lt-ltb}
use Rattle.bits.specs.Laws.Digits.{small}
use Rattle.change.proofs.correcting.admits.Goals.{else-spot-lt64-via-then-spot-lt64+else-v-spot-ne0, else-spot-lt64-via-else-spot-lt64}
use Rattle.change.proofs.correcting.admits.Goals as goal

pub returns-else-spot-lt64-clause-answers : goal.returns-else-spot-lt64-clause-answers
returns-else-spot-lt64-clause-answers c =
    let a = c.args in
    let w = c.in-Some.spot.width in
    let fits : a.v < 2 ^ w = elim c.else-spot-lt64.branch [
      | else-spot-lt64-via-then-spot-lt64+else-v-spot-ne0 x ↦ small a.v w x.if-v-spot-ne0.false
      | else-spot-lt64-via-else-spot-lt64 x ↦ lt_of_lt_of_le c.ranges.v.fits (pow_mono x.if-spot-lt64.false)
    ] in
    rw (c.in-Some.is, ne_eqb w 0 (λ z. omega (arith, z, c.if-spot-gt0.true)), lt-ltb a.v (2 ^ w) fits) refl
