-- The kind of an area by its number, and what the code does for it. Assumes nothing.
use Rattle.std.specs.Prelude.{ℕ, ◌≡◌, refl, Bool, true, false, cond, List, eqb}
use Rattle.std.proofs.Common.{eq-eqb, ne_eqb}
use Rattle.walk.specs.Walk.{Walk}
use Rattle.notice_fields.specs.Areas.{sea, circle, several, least_of, kind_of}
use Rattle.notice_fields.specs.Steps.{closed_as}

pub kind_sea : {k : ℕ} → k ≡ 0 → kind_of k ≡ sea
kind_sea {k} e = rw (eq-eqb k 0 e) refl

pub kind_circle : {k : ℕ} → k ≡ 3 → kind_of k ≡ circle
kind_circle {k} e = rw e refl

pub kind_several : {k : ℕ} → (k ≡ 0 → ⊥) → (k ≡ 3 → ⊥) → kind_of k ≡ several (least_of k)
kind_several {k} n m = rw (ne_eqb k 0 n, ne_eqb k 3 m) refl

-- nothing stands behind the points of what is no circle
pub closed_plain : (k : ℕ) (s : List ℕ) (r : Walk) → (k ≡ 3 → ⊥) → r ≡ closed_as (kind_of k) s r
unfolding closed_as
closed_plain k s r n = rw (ne_eqb k 3 n) (go (eqb k 0))
  where
    go : (x : Bool) → r ≡ closed_as (cond x sea (several (least_of k))) s r
    go true = refl
    go false = refl
