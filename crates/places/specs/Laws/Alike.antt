-- Two runs of bytes are found alike exactly where they are the same. Assumes nothing.
use Rattle.std.specs.Prelude.{◌≡◌, refl, true, List, [], ◌∷◌, ℕ, eqb}
use Rattle.std.proofs.Common.{ap₂, eqb-true, eq-eqb}
use Rattle.std.proofs.lemmas.Bool.{false≢true}
use Rattle.std.proofs.Math.Bool.{and-eq-true_iff}
use Rattle.places.specs.Desk.{alike}

pub alike_same : (xs ys : List ℕ) → alike xs ys ≡ true → xs ≡ ys
unfolding alike
alike_same [] [] e = refl
alike_same [] (y ∷ ys) e = absurd (false≢true e)
alike_same (x ∷ xs) [] e = absurd (false≢true e)
alike_same (x ∷ xs) (y ∷ ys) e = let (a, b) = (and-eq-true_iff (eqb x y) (alike xs ys)).0 e in ap₂ ◌∷◌ (eqb-true x y a) (alike_same xs ys b)

pub same_alike : (xs : List ℕ) → alike xs xs ≡ true
unfolding alike
same_alike [] = refl
same_alike (x ∷ xs) = rw (eq-eqb x x refl) (same_alike xs)
