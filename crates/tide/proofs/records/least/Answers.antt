-- `least` meets its contract.
use mathlib.Core.Path.{refl}
use borrow.Author.Tests.{eq-eqb, ne_eqb}
use Rattle.tide.proofs.records.least.Goals as goal

pub returns-then-sign-eq0 : goal.returns-then-sign-eq0
returns-then-sign-eq0 c = rw (eq-eqb c.args.sign 0 c.if-sign-eq0.true) refl

pub returns-else-sign-eq0 : goal.returns-else-sign-eq0
returns-else-sign-eq0 c = rw (ne_eqb c.args.sign 0 c.if-sign-eq0.false) refl
