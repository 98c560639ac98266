-- Numbers in two's complement are spelled one way, and read back. Assumes nothing.
use Rattle.std.specs.Prelude.{◌≡◌, ℕ, zero, suc, ◌-◌, ◌/◌, ◌%◌, ◌<◌, ◌≤◌, Bool, true, false, cond, ℤ, pos, negsuc, neg_ℤ, nat_lt}
use Rattle.std.proofs.Math.Path.{refl}
use Rattle.std.proofs.Common.{◌∙◌, arith, le-leb, lt-ltb, le-ltb, ltb-true, ltb-false}
use Rattle.std.specs.Int.Signed.{mag, non_neg}
use Rattle.walk.specs.Sign.{int_of, spell_of}

module _ (full : ℕ) (x : ℤ) where
  pub spell_far : full / 2 ≤ mag x → spell_of full x ≡ full
  unfolding spell_of
  spell_far h = rw (le-ltb (mag x) (full / 2) h) refl

  pub spell_up : mag x < full / 2 → non_neg x ≡ true → spell_of full x ≡ mag x
  unfolding spell_of
  spell_up h s = rw (lt-ltb (mag x) (full / 2) h, s) refl

  pub spell_down : mag x < full / 2 → non_neg x ≡ false → spell_of full x ≡ full - mag x - 1
  unfolding spell_of
  spell_down h s = rw (lt-ltb (mag x) (full / 2) h, s) refl

-- what is spelled is a signed number's, and spells it again
pub spell_int : (full v : ℕ) → full ≤ 2_147_483_648 → full % 2 ≡ 0 → v < full → spell_of full (int_of full v) ≡ v
unfolding int_of
spell_int full v l even h = rw (le-leb full 2_147_483_648 l, lt-ltb v full h) (go (nat_lt v (full / 2)) refl)
  where
    down : (n : ℕ) → 0 < n → n ≤ full / 2 → spell_of full (neg_ℤ (pos n)) ≡ full - n
    down zero a b = absurd (omega arith)
    down (suc n) a b = spell_down full (negsuc n) (omega arith) refl ∙ omega arith

    go : (t : Bool) → nat_lt v (full / 2) ≡ t → spell_of full (cond t (pos v) (neg_ℤ (pos (full - v)))) ≡ v
    go true e = spell_up full (pos v) (ltb-true v (full / 2) e) refl
    go false e = let k = ltb-false v (full / 2) e in down (full - v) (omega arith) (omega arith) ∙ omega arith

-- a number that is spelled is what it spells
pub int_spell : (full : ℕ) (x : ℤ) → full ≤ 2_147_483_648 → full % 2 ≡ 0 → spell_of full x < full → int_of full (spell_of full x) ≡ x
unfolding int_of
int_spell full x l even h = go x (nat_lt (mag x) (full / 2)) refl h
  where
    go : (x : ℤ) (t : Bool) → nat_lt (mag x) (full / 2) ≡ t → spell_of full x < full → int_of full (spell_of full x) ≡ x
    go x false e h = let z = spell_far full x (ltb-false (mag x) (full / 2) e) in absurd (omega arith)
    go (pos n) true e h =
        let k = ltb-true n (full / 2) e in
        rw (spell_up full (pos n) k refl, le-leb full 2_147_483_648 l, lt-ltb n full (omega arith), e) refl
    go (negsuc n) true e h =
        let k = ltb-true n (full / 2) e in
        let d : full - (full - n - 1) ≡ suc n = omega arith in
        rw (spell_down full (negsuc n) k refl, le-leb full 2_147_483_648 l, lt-ltb (full - n - 1) full (omega arith), le-ltb (full - n - 1) (full / 2) (omega arith), d) refl
