-- `declared` compares without a sum that could wrap.
use mathlib.Core.Path.{refl}
use Prim.Native.Nat.{◌+◌}
use native.Mathlib.Omega.{arith}
use borrow.Author.Tests.{lt-ltb, le-ltb}
use Rattle.frame.specs.Frame.{declared}
use Rattle.frame.proofs.declared.Goals as goal

pub returns-then-content-fixed : goal.returns-then-content-fixed
unfolding declared
returns-then-content-fixed c = rw (le-ltb (c.args.fixed + c.args.content) 65_536 (omega arith)) refl

pub returns : goal.returns
unfolding declared
returns c = rw (lt-ltb (c.args.fixed + c.args.content) 65_536 (omega arith)) refl
