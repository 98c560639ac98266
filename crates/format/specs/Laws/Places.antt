-- Reading refuses at the first field that is bad, and nowhere else, with that field's fault; writing at the first value. So the bit that is told lies within the message, or where it ends. For every layout, field by field. Assumes nothing.
use Rattle.std.specs.Prelude.{◌≡◌, Bool, ◌⊎◌, List, [], ◌∷◌, ℕ, ◌+◌, ◌/◌, ◌%◌, ◌≤◌, eqb, length, take, drop}
use Rattle.std.proofs.Math.Path.{refl, sym, ap}
use Rattle.std.proofs.Common.{◌∙◌, arith, length-take, length-drop}
use Rattle.std.proofs.Math.Bool.{true, false}
use Rattle.std.proofs.Math.Logic.{inl, inr}
use borrow.Author.Tests.{le-leb, lt-leb, leb-true, leb-false, eqb-true, eqb-false}
use Rattle.std.proofs.Math.Dec.{leb}
use Rattle.bits.specs.Bits.{value_of}
use Rattle.format.specs.Fmt.{Out, accepted, refused, Fault, good, bad, or_bad, Judge, Fmt, end, field, choice, bytes, pad, check, also, read_field, read}
use Rattle.format.specs.Places.{GoodField, BadField, BadEnd, FirstBad}
use Rattle.format.specs.Laws.Round.{clash, refused_inj}
use Rattle.format.specs.Laws.Zero.{Numbered, Judged}

pub either : {A B C : Type 0} → A ⊎ B → (A → C) → (B → C) → C
either (inl a) f g = f a
either (inr b) f g = g b

-- ---- reading

-- a refusal goes through
pub also_refused : {A B : Type 0} (f : A → B) (o : Out A) {c p : ℕ} → also f o ≡ refused c p → o ≡ refused c p
also_refused f (accepted a) e = clash (sym e)
also_refused f (refused d q) e = let (x, y) = refused_inj e in λ i. refused (x i) (y i)

module _ (w : ℕ) (j : Judge) (h : List ℕ) (at : ℕ) (b : List Bool) (next : ℕ → List Bool → Out (List ℕ)) (c p : ℕ) where
  -- a field that is read and refused is bad, or is good and what follows is refused
  refused_field : read_field w j h at b next ≡ refused c p → BadField w j h at b c p ⊎ (GoodField w j h b × (next (value_of (take w b)) (drop w b) ≡ refused c p))
  unfolding read_field
  refused_field = go (j h (take w b)) refl (leb w (length b)) refl
    where
      go : (x : Fault) → j h (take w b) ≡ x → (t : Bool) → leb w (length b) ≡ t → check x at (check (or_bad t 1) at (also (value_of (take w b) ∷◌) (next (value_of (take w b)) (drop w b)))) ≡ refused c p
          → BadField w j h at b c p ⊎ (GoodField w j h b × (next (value_of (take w b)) (drop w b) ≡ refused c p))
      go (bad d i) k t l e = let (x, y) = refused_inj e in inl (inl (i, k ∙ ap (λ d. bad d i) x, sym y))
      go good k false l e = let (x, y) = refused_inj e in inl (inr (k, leb-false w (length b) l, sym x, omega (arith, y)))
      go good k true l e = inr ((k, leb-true w (length b) l), also_refused (value_of (take w b) ∷◌) _ e)

  -- and the other way
  pub field_refused : BadField w j h at b c p ⊎ (GoodField w j h b × (next (value_of (take w b)) (drop w b) ≡ refused c p)) → read_field w j h at b next ≡ refused c p
  unfolding read_field
  field_refused (inl (inl (i, k, y))) = rw k (ap (refused c) (sym y))
  field_refused (inl (inr (k, l, x, y))) = rw (k, lt-leb w (length b) l, x, y) (ap (refused 1) (omega arith))
  field_refused (inr ((k, l), e)) = rw (k, le-leb w (length b) l, e) refl

-- where it ends
refused_end : (at : ℕ) (b : List Bool) (c p : ℕ) → ◌≡◌ {A = Out (List ℕ)} (check (or_bad (eqb (value_of (take (pad at) b)) 0) 5) at (check (or_bad (eqb (length b) (pad at)) 1) (at + pad at) (accepted []))) (refused c p) → BadEnd at b c p
refused_end at b c p = go (eqb (value_of (take (pad at) b)) 0) refl (eqb (length b) (pad at)) refl
  where
    go : (x : Bool) → eqb (value_of (take (pad at) b)) 0 ≡ x → (y : Bool) → eqb (length b) (pad at) ≡ y
        → ◌≡◌ {A = Out (List ℕ)} (check (or_bad x 5) at (check (or_bad y 1) (at + pad at) (accepted []))) (refused c p) → BadEnd at b c p
    go false ex y ey e = let (k, l) = refused_inj e in inl (eqb-false (value_of (take (pad at) b)) 0 ex, sym k, omega (arith, l))
    go true ex false ey e = let (k, l) = refused_inj e in inr (eqb-true (value_of (take (pad at) b)) 0 ex, eqb-false (length b) (pad at) ey, sym k, omega (arith, l))
    go true ex true ey e = clash (sym e)

-- Where reading refuses, every field before that is good, and this one is not.
pub read_first_bad : (f : Fmt) (h : List ℕ) (at : ℕ) (b : List Bool) (c p : ℕ) → read f h at b ≡ refused c p → FirstBad f h at b c p
unfolding read FirstBad
read_first_bad end h at b c p e = refused_end at b c p e
read_first_bad (field w j m f) h at b c p e = either (refused_field w j h at b _ c p e) inl (λ x. inr (x.0, read_first_bad f (value_of (take w b) ∷ h) (at + w) (drop w b) c p x.1))
read_first_bad (choice w j f) h at b c p e =
    let v = value_of (take w b) in
    either (refused_field w j h at b _ c p e) inl (λ x. inr (x.0, read_first_bad (f v) (v ∷ h) (at + w) (drop w b) c p x.1))
read_first_bad (bytes f) h at b c p e = let n = length b / 8 in read_first_bad (f n) (n ∷ h) at b c p (also_refused (n ∷◌) _ e)

-- ---- within the message

length_take_at_most : (w : ℕ) (b : List Bool) → length (take w b) ≤ length b
length_take_at_most w b = omega (arith, length-take w b)

still_even : (at : ℕ) (b : List Bool) (w : ℕ) → w ≤ length b → (at + length b) % 8 ≡ 0 → (at + w + length (drop w b)) % 8 ≡ 0
still_even at b w l e = ap (◌% 8) (omega (arith, l, length-drop w b)) ∙ e

module _ (at : ℕ) (b : List Bool) (c p : ℕ) where
  abbrev Inside : Type 0
  Inside = (at ≤ p) × (p ≤ at + length b)

  end_inside : (at + length b) % 8 ≡ 0 → BadEnd at b c p → Inside
  end_inside even (inl (n, x, y)) = (omega (arith, y), omega (arith, y))
  end_inside even (inr (z, n, x, y)) = (omega (arith, y), omega (arith, y, even))

  field_inside : (w : ℕ) (j : Judge) (h : List ℕ) → Numbered j → BadField w j h at b c p → Inside
  field_inside w j h n (inl (i, k, y)) = let l = n.1 h (take w b) c i k in (omega (arith, y), omega (arith, y, l, length_take_at_most w b))
  field_inside w j h n (inr (k, l, x, y)) = (omega (arith, y), omega (arith, y))

  later_inside : (w : ℕ) → w ≤ length b → (at + w ≤ p) × (p ≤ at + w + length (drop w b)) → Inside
  later_inside w l x = (omega (arith, x.0), omega (arith, x.1, l, length-drop w b))

-- The bit lies within the bits that are read, or where they end: they are whole bytes with what is before them.
pub read_inside : (f : Fmt) (h : List ℕ) (at : ℕ) (b : List Bool) (c p : ℕ) → Judged f → (at + length b) % 8 ≡ 0 → FirstBad f h at b c p → (at ≤ p) × (p ≤ at + length b)
unfolding FirstBad
read_inside end h at b c p j even x = end_inside at b c p even x
read_inside (field w k m f) h at b c p j even x =
    either x (field_inside at b c p w k h j.0)
    (λ y. later_inside at b c p w y.0.1 (read_inside f (value_of (take w b) ∷ h) (at + w) (drop w b) c p j.1 (still_even at b w y.0.1 even) y.1))
read_inside (choice w k f) h at b c p j even x =
    let v = value_of (take w b) in
    either x (field_inside at b c p w k h j.0)
    (λ y. later_inside at b c p w y.0.1 (read_inside (f v) (v ∷ h) (at + w) (drop w b) c p (j.1 v) (still_even at b w y.0.1 even) y.1))
read_inside (bytes f) h at b c p j even x = let n = length b / 8 in read_inside (f n) (n ∷ h) at b c p (j n) even x
