-- With what a layout opens, and how many bits it takes by the values that decide it. Assumes nothing.
use Rattle.std.specs.Prelude.{◌≡◌, Bool, true, false, List, [], ◌∷◌, ℕ, ◌+◌, ◌*◌, drop, get_or}
use Rattle.std.proofs.Math.Path.{refl}
use Rattle.std.proofs.Common.{ap}
use Rattle.std.proofs.lemmas.Bool.{false≢true}
use Rattle.format.specs.Fmt.{Judge, Fmt, end, field, choice, bytes, write_field, write, pad}
use Rattle.format.specs.Message.{Layout, size}

-- f opens with a field or a choice of w bits; behind v stands g.
pub record Opens (f : Fmt) (at v : ℕ) (vs : List ℕ) (w : ℕ) (j : Judge) (g : Fmt) : Type 0 where
  pub is : (h : List ℕ) → write f h at (v ∷ vs) ≡ write_field w j h at v (write g (v ∷ h) (at + w) vs)

module _ {w : ℕ} {j : Judge} {at v : ℕ} {vs : List ℕ} where
  pub opens_field : {f : Fmt} {m : List ℕ → Bool} → Opens (field w j m f) at v vs w j f
  unfolding write
  opens_field = record { is = λ h. refl }

  pub opens_choice : {f : ℕ → Fmt} → Opens (choice w j f) at v vs w j (f v)
  unfolding write
  opens_choice = record { is = λ h. refl }

-- How many bits; a value that decides nothing is not looked at.
abbrev pub extent : Fmt → ℕ → List ℕ → ℕ
extent end at vs = pad at
extent (field w j m f) at vs = w + extent f (at + w) (drop 1 vs)
extent (choice w j f) at vs = w + extent (f (get_or vs 0 0)) (at + w) (drop 1 vs)
extent (bytes f) at vs = extent (f (get_or vs 0 0)) at (drop 1 vs)

-- A flat layout has the same bits in every message.
abbrev pub flat : Fmt → Bool
flat end = true
flat (field w j m f) = flat f
flat (choice w j f) = false
flat (bytes f) = false

pub flat_extent : (f : Fmt) (at : ℕ) (us vs : List ℕ) → flat f ≡ true → extent f at us ≡ extent f at vs
flat_extent end at us vs e = refl
flat_extent (field w j m f) at us vs e = ap (w +◌) (flat_extent f (at + w) (drop 1 us) (drop 1 vs) e)
flat_extent (choice w j f) at us vs e = absurd (false≢true e)
flat_extent (bytes f) at us vs e = absurd (false≢true e)

-- ---- a flat layout

-- the bits of a flat layout
unfoldable pub span : Fmt → ℕ → ℕ
span f at = extent f at []

-- A flat layout of n bytes, with no kind to test and no seal.
pub record Plain (l : Layout) (n : ℕ) : Type 0 where
  pub bare : l.seal ≡ false
  pub kindless : (vs : List ℕ) → l.kind vs ≡ 0
  pub even : flat l.fmt ≡ true
  pub spans : span l.fmt 0 ≡ n * 8
  pub sized : size l n ≡ 0
