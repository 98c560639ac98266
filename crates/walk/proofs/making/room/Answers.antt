-- `room` is no room where the row has too few numbers, else the buffer's.
use Rattle.std.proofs.Common.{refl, arith, le-ltb, lt-ltb}
use Rattle.walk.proofs.making.room.Goals as goal

pub returns-then-has-asked : goal.returns-then-has-asked
returns-then-has-asked c = let a = c.args in rw (lt-ltb a.has a.asked c.if-has-asked.true) refl

pub returns-else-has-asked : goal.returns-else-has-asked
returns-else-has-asked c = let a = c.args in rw (le-ltb a.has a.asked (omega arith)) refl
