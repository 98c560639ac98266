-- `lead` gives 01's first tests: each way out decides the tests before it.
use mathlib.Core.Path.{◌≡◌, refl, sym, ◌∙◌}
use mathlib.Core.Bool.{cond, ◌&&◌, and-false}
use mathlib.Core.List.{List}
use Prim.Native.Nat.{ℕ, ◌+◌, ◌≤◌}
use native.Mathlib.Omega.{arith}
use lib.Dec.{eqb, lit≤}
use lib.ListN.{length}
use borrow.Author.Tests.{le-leb, lt-leb, eq-eqb, ne_eqb}
use Rattle.bits.specs.Answers.{got}
use Rattle.bits.specs.Bits.{field_at}
use Rattle.bits.specs.Laws.Answers.{got_fits}
use Rattle.format.specs.Message.{between}
use Rattle.frame.specs.Frame.{leads}
use Rattle.frame.proofs.lead.Goals as goal

-- what stands in the head of at least 12 bytes
there : (s : List ℕ) (at w : ℕ) {v : ℕ} → w ≤ 32 → at + w ≤ 96 → v ≡ got s at w → 12 ≤ length s → v ≡ field_at s at w
there s at w n l e h = e ∙ got_fits s at w n (omega arith)

-- with `$` and the letters, the sizes are left
named : (s : List ℕ) (letters least most : ℕ) {d l : ℕ} → l ≡ got s 8 32 → l ≡ letters → d ≡ got s 0 8 → d ≡ 0x24 → 12 ≤ length s
    → leads letters least most s ≡ cond (between least most (length s) && eqb (field_at s 40 16) (length s)) 0 1
unfolding leads
named s letters least most l is d dollar n =
    rw (le-leb 12 (length s) n, eq-eqb (field_at s 0 8) 0x24 (sym (there s 0 8 (lit≤ tt) (lit≤ tt) d n) ∙ dollar), eq-eqb (field_at s 8 32) letters (sym (there s 8 32 (lit≤ tt) (lit≤ tt) l n) ∙ is)) refl

pub returns-then-s-lt-LEAST : goal.returns-then-s-lt-LEAST
unfolding leads
returns-then-s-lt-LEAST c = rw (lt-leb 12 (length c.args.s.now) c.if-s-lt-LEAST.true) refl

pub returns-then-get-ne-DOLLAR : goal.returns-then-get-ne-DOLLAR
unfolding leads
returns-then-get-ne-DOLLAR c =
    let s = c.args.s.now in
    rw (le-leb 12 (length s) (omega arith), ne_eqb (field_at s 0 8) 0x24 (λ z. c.if-get-ne-DOLLAR.true (there s 0 8 (lit≤ tt) (lit≤ tt) c.get.ensures (omega arith) ∙ z))) refl

pub returns-then-get-letters : goal.returns-then-get-letters
unfolding leads
returns-then-get-letters c =
    let s = c.args.s.now in
    rw (le-leb 12 (length s) (omega arith), eq-eqb (field_at s 0 8) 0x24 (sym (there s 0 8 (lit≤ tt) (lit≤ tt) c.get.ensures (omega arith)) ∙ c.if-get-ne-DOLLAR.false), ne_eqb (field_at s 8 32) _ (λ z. c.if-get-letters.true (there s 8 32 (lit≤ tt) (lit≤ tt) c.get-2.ensures (omega arith) ∙ z))) refl

pub returns-then-s-least : goal.returns-then-s-least
returns-then-s-least c =
    let a = c.args in
    let s = a.s.now in
    sym (named s a.letters a.least a.most c.get-2.ensures c.if-get-letters.false c.get.ensures c.if-get-ne-DOLLAR.false (omega arith)
    ∙ rw (lt-leb a.least (length s) c.if-s-least.true) refl)

pub returns-then-s-most : goal.returns-then-s-most
returns-then-s-most c =
    let a = c.args in
    let s = a.s.now in
    sym (named s a.letters a.least a.most c.get-2.ensures c.if-get-letters.false c.get.ensures c.if-get-ne-DOLLAR.false (omega arith)
    ∙ rw (lt-leb (length s) a.most c.if-s-most.true, and-false) refl)

pub returns-then-length-s : goal.returns-then-length-s
returns-then-length-s c =
    let a = c.args in
    let s = a.s.now in
    sym (named s a.letters a.least a.most c.get-2.ensures c.if-get-letters.false c.get.ensures c.if-get-ne-DOLLAR.false (omega arith)
    ∙ rw (le-leb a.least (length s) (omega (arith, c.if-s-least.false)), le-leb (length s) a.most (omega (arith, c.if-s-most.false)), ne_eqb (field_at s 40 16) (length s) (λ z. c.if-length-s.true (there s 40 16 (lit≤ tt) (lit≤ tt) c.get-length.ensures (omega arith) ∙ z))) refl)

pub returns : goal.returns
returns c =
    let a = c.args in
    let s = a.s.now in
    sym (named s a.letters a.least a.most c.get-2.ensures c.if-get-letters.false c.get.ensures c.if-get-ne-DOLLAR.false (omega arith)
    ∙ rw (le-leb a.least (length s) (omega (arith, c.if-s-least.false)), le-leb (length s) a.most (omega (arith, c.if-s-most.false)), eq-eqb (field_at s 40 16) (length s) (sym (there s 40 16 (lit≤ tt) (lit≤ tt) c.get-length.ensures (omega arith)) ∙ c.if-length-s.false)) refl)
