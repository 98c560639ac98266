-- `least` meets its contract: by the number of the kind.
use mathlib.Core.Path.{refl}
use native.Mathlib.Omega.{arith}
use borrow.Author.Tests.{ne_eqb}
use Rattle.notice_fields.proofs.areas.least.Goals as goal

pub returns-in-1 : goal.returns-in-1
returns-in-1 c = rw c.in-1.is refl

pub returns-in-2 : goal.returns-in-2
returns-in-2 c = rw c.in-2.is refl

pub returns-in_default : goal.returns-in_default
returns-in_default c = rw (ne_eqb c.args.kind 1 (λ e. omega (arith, e)), ne_eqb c.args.kind 2 (λ e. omega (arith, e))) refl
