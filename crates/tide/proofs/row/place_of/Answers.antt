-- `place_of` meets its contract: by the position type.
use mathlib.Core.Path.{refl}
use borrow.Author.Tests.{eq-eqb, ne_eqb}
use Rattle.tide.proofs.row.place_of.Goals as goal

pub returns-then-kind-eq-PORT : goal.returns-then-kind-eq-PORT
returns-then-kind-eq-PORT c = rw (eq-eqb c.args.kind 0 c.if-kind-eq-PORT.true) refl

pub returns : goal.returns
returns c = rw (ne_eqb c.args.kind 0 c.if-kind-eq-PORT.false) refl
