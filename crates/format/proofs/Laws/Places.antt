-- Reading refuses at the first field that is bad, and nowhere else, with that field's fault; writing at the first value. So the bit that is told lies within the message, or where it ends. For every layout, field by field. Assumes nothing.
use Rattle.std.specs.Prelude.{◌≡◌, Bool, ◌⊎◌, List, [], ◌∷◌, ◌++◌, ℕ, suc, ◌+◌, ◌/◌, ◌^◌, ltb, eqb, length, take, drop}
use Rattle.std.proofs.Math.Path.{refl, sym, ap}
use Rattle.std.proofs.Common.{◌∙◌, arith}
use Rattle.std.proofs.Math.Bool.{true, false}
use Rattle.std.proofs.Math.Logic.{inl, inr}
use borrow.Author.Tests.{eq-eqb, ne_eqb, ltb-true, ltb-false}
use Rattle.bits.specs.Bits.{value_of, digits}
use Rattle.format.specs.Fmt.{Out, accepted, refused, Fault, good, bad, or_bad, Judge, Fmt, end, field, choice, bytes, pad, check, also, read, write_field, sized, write}
use Rattle.format.specs.Places.{BadEnd, FirstBad, GoodValue, BadValue, FirstBadValue}
use Rattle.format.specs.Laws.Round.{clash, refused_inj}
use Rattle.format.specs.Laws.Places.{either, also_refused, field_refused}

-- ---- reading

end_refused : (h : List ℕ) (at : ℕ) (b : List Bool) (c p : ℕ) → BadEnd at b c p → read end h at b ≡ refused c p
unfolding read
end_refused h at b c p (inl (n, x, y)) = rw (ne_eqb (value_of (take (pad at) b)) 0 n, x, y) (ap (refused 5) (omega arith))
end_refused h at b c p (inr (z, n, x, y)) = rw (eq-eqb (value_of (take (pad at) b)) 0 z, ne_eqb (length b) (pad at) n, x, y) (ap (refused 1) (omega arith))

-- And reading refuses there.
pub first_bad_read : (f : Fmt) (h : List ℕ) (at : ℕ) (b : List Bool) (c p : ℕ) → FirstBad f h at b c p → read f h at b ≡ refused c p
unfolding read FirstBad
first_bad_read end h at b c p x = end_refused h at b c p x
first_bad_read (field w j m f) h at b c p x =
    field_refused w j h at b _ c p (either x inl (λ y. inr (y.0, first_bad_read f (value_of (take w b) ∷ h) (at + w) (drop w b) c p y.1)))
first_bad_read (choice w j f) h at b c p x =
    let v = value_of (take w b) in
    field_refused w j h at b _ c p (either x inl (λ y. inr (y.0, first_bad_read (f v) (v ∷ h) (at + w) (drop w b) c p y.1)))
first_bad_read (bytes f) h at b c p x = let n = length b / 8 in ap (also (n ∷◌)) (first_bad_read (f n) (n ∷ h) at b c p x)

-- ---- writing

written_field : (w : ℕ) (j : Judge) (h : List ℕ) (at v : ℕ) (o : Out (List Bool)) (c p : ℕ) → write_field w j h at v o ≡ refused c p → BadValue w j h at v c p ⊎ (GoodValue w j h v × (o ≡ refused c p))
unfolding write_field
written_field w j h at v o c p = go (ltb v (2 ^ w)) refl (j h (digits w v)) refl
  where
    go : (t : Bool) → ltb v (2 ^ w) ≡ t → (x : Fault) → j h (digits w v) ≡ x → check (or_bad t 4) at (check x at (also (digits w v ++◌) o)) ≡ refused c p
        → BadValue w j h at v c p ⊎ (GoodValue w j h v × (o ≡ refused c p))
    go false l x k e = let (y, z) = refused_inj e in inl (inl (ltb-false v (2 ^ w) l, sym y, omega (arith, z)))
    go true l (bad d i) k e = let (y, z) = refused_inj e in inl (inr (ltb-true v (2 ^ w) l, (i, k ∙ ap (λ d. bad d i) y, sym z)))
    go true l good k e = inr ((ltb-true v (2 ^ w) l, k), also_refused (digits w v ++◌) o e)

sized_refused : (n at : ℕ) (o : Out (List Bool)) (c p : ℕ) → sized n at o ≡ refused (suc c) p → o ≡ refused (suc c) p
unfolding sized
sized_refused n at (refused d q) c p e = e
sized_refused n at (accepted b) c p e = go (eqb (length b / 8) n) e
  where
    go : (t : Bool) → check (or_bad t 0) at (accepted b) ≡ refused (suc c) p → accepted b ≡ refused (suc c) p
    go true e = e
    go false e = let (y, z) = refused_inj e in absurd (omega (arith, y))

-- Where writing refuses, every value before that is good, and this one is not. (0 is no refusal of a record.)
pub write_first_bad : (f : Fmt) (h : List ℕ) (at : ℕ) (vs : List ℕ) (c p : ℕ) → write f h at vs ≡ refused (suc c) p → FirstBadValue f h at vs (suc c) p
unfolding write FirstBadValue
write_first_bad end h at [] c p e = clash (sym e)
write_first_bad end h at (v ∷ vs) c p e = let (y, z) = refused_inj e in absurd (omega (arith, y))
write_first_bad (field w j m f) h at [] c p e = let (y, z) = refused_inj e in absurd (omega (arith, y))
write_first_bad (field w j m f) h at (v ∷ vs) c p e = either (written_field w j h at v _ (suc c) p e) inl (λ x. inr (x.0, write_first_bad f (v ∷ h) (at + w) vs c p x.1))
write_first_bad (choice w j f) h at [] c p e = let (y, z) = refused_inj e in absurd (omega (arith, y))
write_first_bad (choice w j f) h at (v ∷ vs) c p e = either (written_field w j h at v _ (suc c) p e) inl (λ x. inr (x.0, write_first_bad (f v) (v ∷ h) (at + w) vs c p x.1))
write_first_bad (bytes f) h at [] c p e = let (y, z) = refused_inj e in absurd (omega (arith, y))
write_first_bad (bytes f) h at (n ∷ vs) c p e = write_first_bad (f n) (n ∷ h) at vs c p (sized_refused n at _ c p e)
