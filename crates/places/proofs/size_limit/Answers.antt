-- `size_limit` meets its contract.
use mathlib.Core.Path.{refl, sym}
use borrow.Author.Tests.{lt-ltb, le-ltb}
use Rattle.places.proofs.size_limit.Goals as goal

pub returns-then-k-total : goal.returns-then-k-total
returns-then-k-total c = let a = c.args in sym (rw (lt-ltb a.k a.total c.if-k-total.true) refl)

pub returns-else-k-total : goal.returns-else-k-total
returns-else-k-total c = let a = c.args in sym (rw (le-ltb a.k a.total c.if-k-total.false) refl)
