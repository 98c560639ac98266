-- `bytes`: with the seal, one more.
use Rattle.std.proofs.Common.{refl}
use Rattle.walk.proofs.walk.Walk.bytes.Goals as goal

pub returns-then-seal : goal.returns-then-seal
returns-then-seal c = rw c.if-seal.true refl

pub returns-else-seal : goal.returns-else-seal
returns-else-seal c = rw c.if-seal.false refl
