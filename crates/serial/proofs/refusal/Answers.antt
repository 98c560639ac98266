-- `refusal` gives the first tests, then the letters' reading.
use mathlib.Core.Path.{refl, sym, ap, ◌∙◌}
use native.Mathlib.Omega.{arith}
use lib.Dec.{lit≤}
use lib.ListN.{length}
use borrow.Author.Tests.{le-leb, lt-leb, eq-eqb, ne_eqb}
use Rattle.bits.specs.Bits.{field_at}
use Rattle.bits.specs.Laws.Answers.{got_fits}
use Rattle.serial.specs.Serial.{refusal_as, refusal_of}
use Rattle.serial.proofs.refusal.Goals as goal

pub returns-then-s-lt-LEAST : goal.returns-then-s-lt-LEAST
unfolding refusal_of
returns-then-s-lt-LEAST c = c.into.ensures ∙ rw (lt-leb 12 (length c.args.s.now) c.if-s-lt-LEAST.true) refl

pub returns-then-get-ne-DOLLAR : goal.returns-then-get-ne-DOLLAR
unfolding refusal_of
returns-then-get-ne-DOLLAR c =
    let s = c.args.s.now in
    c.into-then-get-ne-DOLLAR.ensures ∙ rw (le-leb 12 (length s) (omega arith), ne_eqb (field_at s 0 8) 0x24 (λ z. c.if-get-ne-DOLLAR.true (c.get.ensures ∙ got_fits s 0 8 (lit≤ tt) (omega arith) ∙ z))) refl

pub returns : goal.returns
unfolding refusal_of
returns c =
    let s = c.args.s.now in
    let dollar = sym (c.get.ensures ∙ got_fits s 0 8 (lit≤ tt) (omega arith)) ∙ c.if-get-ne-DOLLAR.false in
    c.refusal_as.ensures ∙ ap (λ n. refusal_as n s) (c.get-2.ensures ∙ got_fits s 8 32 (lit≤ tt) (omega arith)) ∙ rw (le-leb 12 (length s) (omega arith), eq-eqb (field_at s 0 8) 0x24 dollar) refl
