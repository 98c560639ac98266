-- `refusal` goes by the number that stands in the first six bits.
use mathlib.Core.Path.{ap, ◌∙◌}
use Prim.Native.Nat.{◌≤◌}
use native.Mathlib.Omega.{arith}
use lib.Dec.{lit≤}
use lib.ListN.{length}
use borrow.Author.Tests.{le-leb, lt-leb}
use Rattle.bits.specs.Laws.Answers.{got_fits}
use Rattle.ais.specs.Ais.{refusal_as, refusal_of}
use Rattle.ais.proofs.refusal.Goals as goal

pub returns-then-s-lt-SMALLEST : goal.returns-then-s-lt-SMALLEST
unfolding refusal_of
returns-then-s-lt-SMALLEST c = let s = c.args.s.now in rw (lt-leb 23 (length s) c.if-s-lt-SMALLEST.true) c.into.ensures

pub returns : goal.returns
unfolding refusal_of
returns c =
    let s = c.args.s.now in
    let long : 23 ≤ length s = omega (arith, c.if-s-lt-SMALLEST.false) in
    let e = c.get.ensures ∙ got_fits s 0 6 (lit≤ tt) (omega (arith, long)) in
    rw (le-leb 23 (length s) long) (c.refusal_as.ensures ∙ ap (λ m. refusal_as m s) e)
