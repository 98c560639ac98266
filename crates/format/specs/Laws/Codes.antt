-- A message that begins with codes is sound: what its fields accept has them where the first tests look. Assumes nothing.
use Rattle.std.proofs.Math.Path.{◌≡◌, refl}
use Rattle.std.proofs.Common.{arith, le-leb, leb-true}
use Rattle.std.specs.Prelude.{Bool, ◌&&◌, ℕ, leb}
use Rattle.std.proofs.Math.Bool.{true, false}
use mathlib.Core.List.{List, [], ◌∷◌}
use Rattle.format.specs.Fmt.{Fmt}
use Rattle.format.specs.Message.{between}
use Rattle.format.specs.Words.{◌‥◌}
use Rattle.format.specs.Laws.Zero.{Judged, only_numbered}
use Rattle.format.specs.Codes.{Code, coded, codes}

-- their judges refuse by a number of the paper
pub codes_judged : (cs : List Code) (f : Fmt) → Judged f → Judged (codes cs f)
unfolding codes
codes_judged [] f j = j
codes_judged (coded w lo hi ∷ cs) f j = (only_numbered w 1 (lo ‥ hi), codes_judged cs f j)

-- ---- one code, tested by itself

and_false : (b : Bool) → (b && false) ≡ false
and_false true = refl
and_false false = refl

pub just_so : (n : ℕ) {v : ℕ} → v ≡ n → between n n v ≡ true
just_so n {v} e = rw (le-leb n v (omega (arith, e)), le-leb v n (omega (arith, e))) refl

pub just_not : (n : ℕ) {v : ℕ} → (v ≡ n → ⊥) → between n n v ≡ false
just_not n {v} h = go (leb v n) (leb n v) refl refl
  where
    go : (x y : Bool) → leb v n ≡ x → leb n v ≡ y → (y && x) ≡ false
    go false y ex ey = and_false y
    go true false ex ey = refl
    go true true ex ey = absurd (h (omega (arith, leb-true v n ex, leb-true n v ey)))
