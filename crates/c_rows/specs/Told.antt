-- The outline of a notice told in a lent row and a lent number (paper 01, "Notice and packet"), and the promise allows one answer. Assumes nothing.
use Rattle.std.specs.Prelude.{ℕ, ◌≡◌, Bool, true, false, List, leb, eqb, ℤ}
use Rattle.std.proofs.Common.{sym, ap, ◌∙◌}
use Rattle.format.specs.Fmt.{Out, accepted, refused, check, or_bad, also}
use Rattle.format.specs.Message.{told, leaves}
use Rattle.format.specs.Refusals.{Verdict}
use Rattle.c_rows.specs.Language.{spoken}
use Rattle.outline.specs.Promises.{drawn, points_told, counted}

-- the call's refusal, and what it leaves of the row and of the lent number n
abbrev pub OutlineTold : List ℕ → ℕ → List ℤ → ℕ → Verdict → List ℤ → ℕ → Type 0
OutlineTold s language row n code t m = let o = spoken language (λ english. counted english s row) in
    (code ≡ told o) × (t ≡ leaves (spoken language (λ english. drawn english s row)) row) × (m ≡ leaves o n)

-- two answers that it allows are equal
pub one_telling : (s : List ℕ) (language : ℕ) (row : List ℤ) (n : ℕ) (c d : Verdict) (t u : List ℤ) (m k : ℕ)
    → OutlineTold s language row n c t m → OutlineTold s language row n d u k → (c ≡ d) × (t ≡ u) × (m ≡ k)
one_telling s language row n c d t u m k x y = (x.0 ∙ sym y.0, x.1 ∙ sym y.1, x.2 ∙ sym y.2)

-- a refusal leaves both as they were
pub refused_telling : (s : List ℕ) (language : ℕ) (row : List ℤ) (n : ℕ) (c : Verdict) (t : List ℤ) (m : ℕ) → OutlineTold s language row n c t m → (c.code ≡ 0 → ⊥) → (t ≡ row) × (m ≡ n)
refused_telling s language row n c t m x h = go (leb language 1) (drawn (eqb language 1) s row) x.0 x.1 x.2
  where
    go : (b : Bool) (o : Out (List ℤ)) → let k = check (or_bad b 4) 0 (also (λ t. points_told (eqb language 1) s) o) in c ≡ told k → t ≡ leaves (check (or_bad b 4) 0 o) row → m ≡ leaves k n → (t ≡ row) × (m ≡ n)
    go true (accepted u) e y z = absurd (h (ap (λ r. r.code) e))
    go true (refused d p) e y z = (y, z)
    go false o e y z = (y, z)
