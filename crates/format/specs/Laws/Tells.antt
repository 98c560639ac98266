-- Faults as numbers: a judge that tells a number of the field's value, and the fault of a record's value. Assumes nothing.
use Rattle.std.specs.Prelude.{◌≡◌, refl, Bool, true, false, cond, ◌&&◌, List, ℕ, zero, suc, ◌≤◌, ◌<◌, ◌^◌, leb, ltb, length}
use Rattle.std.proofs.Common.{ap₂, ◌∙◌, arith, take_all, le-leb, leb-true, lt-ltb, le-ltb}
use Rattle.std.proofs.lemmas.Bool.{lt-leb}
use Rattle.bits.specs.Bits.{value_of, digits}
use Rattle.bits.specs.Laws.Digits.{length_digits, value_digits, value_lt, digits_value}
use Rattle.format.specs.Fmt.{Fault, good, bad, or_bad}
use Rattle.format.specs.Words.{Test, walk, or_else, unless, only, twice}

-- the fault with the number c, i bits in
abbrev pub blamed : ℕ → ℕ → Fault
blamed zero i = good
blamed (suc c) i = bad (suc c) i

-- The judge's fault is a number that the field's value gives, or 1 where the field is cut.
pub record Tells (w : ℕ) (j : List Bool → Fault) (fault_of : ℕ → ℕ) : Type 0 where
  pub whole : (b : List Bool) → length b ≡ w → j b ≡ blamed (fault_of (value_of b)) 0
  pub cut : (b : List Bool) → length b < w → j b ≡ bad 1 0

pub only_tells : (w c : ℕ) (t : Test) (h : List ℕ) → Tells w (only w (suc c) t h) (λ v. cond (t h v) 0 (suc c))
unfolding walk
only_tells w c t h = record {
  whole = λ b e. rw (le-leb w (length b) (omega (arith, e)), take_all w b (omega (arith, e))) (go (t h (value_of b)));
  cut = λ b l. rw (lt-leb w (length b) l) refl;
}
  where
    go : (x : Bool) → or_else (unless x (suc c) 0) good ≡ blamed (cond x 0 (suc c)) 0
    go true = refl
    go false = refl

-- under two tests
pub twice_tells : (w c d : ℕ) (t u : Test) (h : List ℕ) → Tells w (twice w (suc c) t (suc d) u h) (λ v. cond (t h v) (cond (u h v) 0 (suc d)) (suc c))
twice_tells w c d t u h =
    let x = only_tells w c t h in
    let y = only_tells w d u h in
    record {
      whole = λ b e. ap₂ or_else (x.whole b e) (y.whole b e) ∙ go (t h (value_of b)) (u h (value_of b));
      cut = λ b l. ap₂ or_else (x.cut b l) (y.cut b l);
    }
  where
    go : (x y : Bool) → or_else (blamed (cond x 0 (suc c)) 0) (blamed (cond y 0 (suc d)) 0) ≡ blamed (cond x (cond y 0 (suc d)) (suc c)) 0
    go true true = refl
    go true false = refl
    go false y = refl

-- under a judge that hangs on a test of the values before
pub cond_tells : (w : ℕ) (x : Bool) {j k : List Bool → Fault} {f g : ℕ → ℕ} → Tells w j f → Tells w k g → Tells w (λ b. cond x (j b) (k b)) (λ v. cond x (f v) (g v))
cond_tells w true y z = y
cond_tells w false y z = z

-- a number from n to n is n
pub only_one : (n v c : ℕ) → cond (leb n v && leb v n) 0 (suc c) ≡ 0 → v ≡ n
only_one n v c = go (leb n v) (leb v n) refl refl
  where
    go : (x y : Bool) → leb n v ≡ x → leb v n ≡ y → ◌≡◌ {A = ℕ} (cond (x && y) 0 (suc c)) 0 → v ≡ n
    go true true ex ey z = let a = leb-true n v ex in let b = leb-true v n ey in omega arith
    go true false ex ey z = absurd (omega (arith, z))
    go false y ex ey z = absurd (omega (arith, z))

-- ---- the fault of a record's value

-- too wide, or as its judge says
abbrev pub wrong : ℕ → (List Bool → Fault) → ℕ → Fault
wrong w j v = or_else (or_bad (ltb v (2 ^ w)) 4) (j (digits w v))

-- of one number, by a judge that tells a number
pub wrong_tells : (w v : ℕ) {j : List Bool → Fault} {fault_of : ℕ → ℕ} → Tells w j fault_of → v < 2 ^ w → wrong w j v ≡ blamed (fault_of v) 0
wrong_tells w v x l = rw (lt-ltb v (2 ^ w) l, x.whole (digits w v) (length_digits w v), value_digits w l) refl

-- by a test
module _ (w c : ℕ) (t : Test) (h : List ℕ) (v : ℕ) where
  pub wrong_narrow : v < 2 ^ w → wrong w (only w (suc c) t h) v ≡ blamed (cond (t h v) 0 (suc c)) 0
  wrong_narrow l = wrong_tells w v (only_tells w c t h) l

  pub wrong_wide : 2 ^ w ≤ v → wrong w (only w (suc c) t h) v ≡ bad 4 0
  wrong_wide l = rw (le-ltb v (2 ^ w) l) refl

-- of bits that are given: a text, or content
pub wrong_bits : (w : ℕ) (j : List Bool → Fault) (l : List Bool) → length l ≡ w → wrong w j (value_of l) ≡ j l
wrong_bits w j l e =
    let n : value_of l < 2 ^ w = rw (← e) (value_lt l) in
    rw (lt-ltb (value_of l) (2 ^ w) n, digits_value w l e) refl
