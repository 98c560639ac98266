-- `int` is the number that the bits spell: what the machine's 32 bits give at each way out.
use Rattle.std.proofs.Common.{◌-◌, ◌/◌, arith, le-ltb, lt-ltb, le-leb}
use borrow.Author.Tests.{lt-leb}
use Rattle.walk.specs.Sign.{int_of}
use Rattle.walk.proofs.Ints.{low, negate, negate_fits}
use Rattle.walk.proofs.sign.int.Goals as goal

pub returns-then-full-gt2147483648 : goal.returns-then-full-gt2147483648
unfolding int_of
returns-then-full-gt2147483648 c = rw (lt-leb c.args.full 2_147_483_648 c.if-full-gt2147483648.true)

pub returns-then-v-full : goal.returns-then-v-full
unfolding int_of
returns-then-v-full c =
    let a = c.args in
    rw (le-leb a.full 2_147_483_648 c.if-full-gt2147483648.false, le-ltb a.v a.full c.if-v-full.true)

pub overflow_sub-result-else-v-full-2 : goal.overflow_sub-result-else-v-full-2
overflow_sub-result-else-v-full-2 c = let a = c.args in negate_fits (a.full - a.v) (omega arith)

pub returns-then-v-full-2 : goal.returns-then-v-full-2
unfolding int_of
returns-then-v-full-2 c =
    let a = c.args in
    rw (le-leb a.full 2_147_483_648 c.if-full-gt2147483648.false, lt-ltb a.v a.full c.if-v-full.false, lt-ltb a.v (a.full / 2) c.if-v-full-2.true) (low a.v (omega arith))

pub returns-else-v-full-2 : goal.returns-else-v-full-2
unfolding int_of
returns-else-v-full-2 c =
    let a = c.args in
    rw (le-leb a.full 2_147_483_648 c.if-full-gt2147483648.false, lt-ltb a.v a.full c.if-v-full.false, le-ltb a.v (a.full / 2) c.if-v-full-2.false) (negate (a.full - a.v) (omega arith))
