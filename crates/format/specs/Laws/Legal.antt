-- What accepted values have, field by field. Assumes nothing.
use Rattle.std.specs.Prelude.{◌≡◌, refl, Bool, true, false, cond, ◌&&◌, List, [], ◌∷◌, ℕ, zero, suc, ◌≤◌, ◌<◌, ◌^◌, leb}
use Rattle.std.proofs.Common.{sym, ap, ◌∙◌, arith, leb-true}
use Rattle.std.proofs.Math.Bool.{and-eq-true_iff}
use Rattle.bits.specs.Bits.{digits}
use Rattle.bits.specs.Laws.Digits.{length_digits, value_digits}
use Rattle.format.specs.Fmt.{Fault, good, Fmt, end, field, choice, bytes}
use Rattle.format.specs.Words.{Test, ◌‥◌, only, twice}
use Rattle.format.specs.Laws.Tells.{only_tells, twice_tells, blamed, Tells}

-- as many values as fields, each narrow enough and judged good
abbrev pub Legal : Fmt → List ℕ → List ℕ → Type 0
Legal end h [] = Unit
Legal end h (v ∷ vs) = ⊥
Legal (field w j m f) h [] = ⊥
Legal (field w j m f) h (v ∷ vs) = (v < 2 ^ w) × (j h (digits w v) ≡ good) × Legal f (v ∷ h) vs
Legal (choice w j f) h [] = ⊥
Legal (choice w j f) h (v ∷ vs) = (v < 2 ^ w) × (j h (digits w v) ≡ good) × Legal (f v) (v ∷ h) vs
Legal (bytes f) h [] = ⊥
Legal (bytes f) h (n ∷ vs) = Legal (f n) (n ∷ h) vs

-- a value that a judge found good has no fault by its number
pub told_good : (w v : ℕ) (j : List Bool → Fault) {fault_of : ℕ → ℕ} → Tells w j fault_of → v < 2 ^ w → j (digits w v) ≡ good → fault_of v ≡ 0
told_good w v j {fault_of} x l e = go (fault_of v) (ap (λ u. blamed (fault_of u) 0) (sym (value_digits w l)) ∙ sym (x.whole (digits w v) (length_digits w v)) ∙ e)
  where
    go : (c : ℕ) → blamed c 0 ≡ good → c ≡ 0
    go zero e = refl
    go (suc c) e = let z : ◌≡◌ {A = ℕ} 0 1 = cc in absurd (omega arith)

-- a value that was judged good passes its test
pub passed : (w c : ℕ) (t : Test) (h : List ℕ) (v : ℕ) → v < 2 ^ w → only w (suc c) t h (digits w v) ≡ good → t h v ≡ true
passed w c t h v l e = go (t h v) (told_good w v (only w (suc c) t h) (only_tells w c t h) l e)
  where
    go : (x : Bool) → cond x 0 (suc c) ≡ 0 → x ≡ true
    go true z = refl
    go false z = absurd (omega (arith, z))

-- and of two tests, one after the other, both
pub passed_twice : (w c d : ℕ) (t u : Test) (h : List ℕ) (v : ℕ) → v < 2 ^ w → twice w (suc c) t (suc d) u h (digits w v) ≡ good → (t h v ≡ true) × (u h v ≡ true)
passed_twice w c d t u h v l e = go (t h v) (u h v) (told_good w v (twice w (suc c) t (suc d) u h) (twice_tells w c d t u h) l e)
  where
    go : (x y : Bool) → cond x (cond y 0 (suc d)) (suc c) ≡ 0 → (x ≡ true) × (y ≡ true)
    go true true z = (refl, refl)
    go true false z = absurd (omega (arith, z))
    go false y z = absurd (omega (arith, z))

-- a number that passes the test of its range is in it
pub ranged : (lo hi v : ℕ) → (leb lo v && leb v hi) ≡ true → (lo ≤ v) × (v ≤ hi)
ranged lo hi v e = let (a, b) = (and-eq-true_iff (leb lo v) (leb v hi)).0 e in (leb-true lo v a, leb-true v hi b)

-- a field of one good value has it
pub exactly : (w c n : ℕ) (h : List ℕ) (v : ℕ) → v < 2 ^ w → only w (suc c) (n ‥ n) h (digits w v) ≡ good → v ≡ n
exactly w c n h v l e = let (a, b) = ranged n n v (passed w c (n ‥ n) h v l e) in omega (arith, a, b)

-- a narrow value that passes its test is judged good
pub passes : (w c : ℕ) (t : Test) (h : List ℕ) (v : ℕ) → v < 2 ^ w → t h v ≡ true → only w (suc c) t h (digits w v) ≡ good
passes w c t h v l e = (only_tells w c t h).whole (digits w v) (length_digits w v) ∙ rw (value_digits w l, e) refl
