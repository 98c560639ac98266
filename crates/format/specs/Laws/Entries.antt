-- The values that a layout accepts, entry by entry: as many as it has fields, so that the list is the list of its entries. Assumes nothing.
use Rattle.std.specs.Prelude.{◌≡◌, refl, List, [], ◌∷◌, ℕ, zero, suc, length, get_or}
use Rattle.std.proofs.Common.{sym, ap, ◌∙◌}
use Rattle.format.specs.Fmt.{Fmt, end, field, choice, bytes}
use Rattle.format.specs.Laws.Legal.{Legal}

-- f has n fields, whatever decides it
abbrev pub Long : Fmt → ℕ → Type 0
Long end zero = Unit
Long end (suc n) = ⊥
Long (field w j m f) zero = ⊥
Long (field w j m f) (suc n) = Long f n
Long (choice w j f) zero = ⊥
Long (choice w j f) (suc n) = (v : ℕ) → Long (f v) n
Long (bytes f) zero = ⊥
Long (bytes f) (suc n) = (v : ℕ) → Long (f v) n

-- accepted values are as many as the fields
legal_long : (f : Fmt) (h : List ℕ) (n : ℕ) (vs : List ℕ) → Long f n → Legal f h vs → length vs ≡ n
legal_long end h zero [] z e = refl
legal_long end h (suc n) vs z e = absurd z
legal_long end h zero (v ∷ vs) z e = absurd e
legal_long (field w j m f) h zero vs z e = absurd z
legal_long (field w j m f) h (suc n) [] z e = absurd e
legal_long (field w j m f) h (suc n) (v ∷ vs) z e = ap suc (legal_long f (v ∷ h) n vs z e.2)
legal_long (choice w j f) h zero vs z e = absurd z
legal_long (choice w j f) h (suc n) [] z e = absurd e
legal_long (choice w j f) h (suc n) (v ∷ vs) z e = ap suc (legal_long (f v) (v ∷ h) n vs (z v) e.2)
legal_long (bytes f) h zero vs z e = absurd z
legal_long (bytes f) h (suc n) [] z e = absurd e
legal_long (bytes f) h (suc n) (v ∷ vs) z e = ap suc (legal_long (f v) (v ∷ h) n vs (z v) e)

-- the n entries from number k on
unfoldable pub entries : ℕ → ℕ → List ℕ → List ℕ
entries k zero vs = []
entries k (suc n) vs = get_or vs k 0 ∷ entries (suc k) n vs

shifted : (v k n : ℕ) (vs : List ℕ) → entries (suc k) n (v ∷ vs) ≡ entries k n vs
unfolding entries
shifted v k zero vs = refl
shifted v k (suc n) vs = ap (get_or vs k 0 ∷◌) (shifted v (suc k) n vs)

all_entries : (vs : List ℕ) → entries 0 (length vs) vs ≡ vs
unfolding entries
all_entries [] = refl
all_entries (v ∷ vs) = ap (v ∷◌) (shifted v 0 (length vs) vs ∙ all_entries vs)

-- Accepted values are the list of their entries, behind any others.
pub entries_behind : (f : Fmt) (h : List ℕ) (n : ℕ) (vs : List ℕ) → Long f n → Legal f h vs → entries 0 n vs ≡ vs
entries_behind f h n vs z e = ap (λ n. entries 0 n vs) (sym (legal_long f h n vs z e)) ∙ all_entries vs

pub legal_entries : (f : Fmt) (n : ℕ) (vs : List ℕ) → Long f n → Legal f [] vs → entries 0 n vs ≡ vs
legal_entries f n vs z e = entries_behind f [] n vs z e
