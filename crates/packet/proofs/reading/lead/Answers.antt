-- `lead` gives 01's first tests: each way out decides the tests before it.
use Rattle.std.proofs.Common.{◌≡◌, length, sym, refl, ◌∙◌, arith, lit≤, eq-eqb, ne_eqb, le-leb}
use borrow.Author.Tests.{lt-leb}
use Rattle.bits.specs.Laws.Answers.{got_fits}
use Rattle.bits.specs.Bits.{field_at}
use Rattle.packet.specs.Packet.{version, greatest, packets}
use Rattle.packet.proofs.reading.lead.Goals.{then-get-ne-CODE-via-then-get-ne-CODE, then-get-ne-CODE-via-else-get-ne-CODE+then-get-ne-VERSION}
use Rattle.packet.proofs.reading.lead.Goals as goal

pub returns-then-size-lt-LEAST : goal.returns-then-size-lt-LEAST
unfolding packets
returns-then-size-lt-LEAST c = rw (lt-leb 5 (length c.args.s.now) c.if-size-lt-LEAST.true) refl

pub returns-then-get-ne-CODE : goal.returns-then-get-ne-CODE
unfolding packets
returns-then-get-ne-CODE c =
    let s = c.args.s.now in
    let e : c.get.result ≡ field_at s 0 8 = c.get.ensures ∙ got_fits s 0 8 (lit≤ tt) (omega arith) in
    elim c.then-get-ne-CODE.branch [
      | then-get-ne-CODE-via-then-get-ne-CODE w ↦ rw (le-leb 5 (length s) (omega arith), ne_eqb (field_at s 0 8) 0xE1 (λ z. w.if-get-ne-CODE.true (e ∙ z))) refl
      | then-get-ne-CODE-via-else-get-ne-CODE+then-get-ne-VERSION w ↦
          let d : w.get-else-get-ne-CODE.result ≡ field_at s 8 3 = w.get-else-get-ne-CODE.ensures ∙ got_fits s 8 3 (lit≤ tt) (omega arith) in
          rw (le-leb 5 (length s) (omega arith), eq-eqb (field_at s 0 8) 0xE1 (sym e ∙ w.if-get-ne-CODE.false), ne_eqb (field_at s 8 3) version (λ z. w.if-get-ne-VERSION.true (d ∙ z))) refl
    ]

pub returns-then-size-gt-GREATEST : goal.returns-then-size-gt-GREATEST
unfolding packets
returns-then-size-gt-GREATEST c =
    let s = c.args.s.now in
    let e : c.get.result ≡ field_at s 0 8 = c.get.ensures ∙ got_fits s 0 8 (lit≤ tt) (omega arith) in
    let d : c.get-else-get-ne-CODE.result ≡ field_at s 8 3 = c.get-else-get-ne-CODE.ensures ∙ got_fits s 8 3 (lit≤ tt) (omega arith) in
    rw (le-leb 5 (length s) (omega arith), eq-eqb (field_at s 0 8) 0xE1 (sym e ∙ c.if-get-ne-CODE.false), eq-eqb (field_at s 8 3) version (sym d ∙ c.if-get-ne-VERSION.false), lt-leb (length s) greatest (omega arith)) refl

pub returns : goal.returns
unfolding packets
returns c =
    let s = c.args.s.now in
    let e : c.get.result ≡ field_at s 0 8 = c.get.ensures ∙ got_fits s 0 8 (lit≤ tt) (omega arith) in
    let d : c.get-else-get-ne-CODE.result ≡ field_at s 8 3 = c.get-else-get-ne-CODE.ensures ∙ got_fits s 8 3 (lit≤ tt) (omega arith) in
    rw (le-leb 5 (length s) (omega arith), eq-eqb (field_at s 0 8) 0xE1 (sym e ∙ c.if-get-ne-CODE.false), eq-eqb (field_at s 8 3) version (sym d ∙ c.if-get-ne-VERSION.false), le-leb (length s) greatest (omega arith)) refl
