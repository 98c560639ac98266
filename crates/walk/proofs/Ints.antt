-- What the machine's 32-bit signed operations give, for `int`, `magnitude` and `spelled`. Assumes nothing.
use Rattle.std.proofs.Common.{◌≡◌, ℕ, zero, suc, ◌<◌, Bool, true, false, T, ℤ, pos, negsuc, ◌+ℤ◌, ◌-ℤ◌, neg_ℤ, nat_abs, sym, refl, ap, ◌∙◌, subst, arith, lit<, w32, w64, Fits, SFits, to_z, of_z, lt-ltb, le-leb}
use mathlib.Core.Bool.{false≢true}
use lib.IntN.{+ℤ_one, +ℤ_idl}
use lib.Signed.{mag, non_neg, le_z}
use mir.ValLaws.{to_z-of_z}

abbrev pub machine : ℤ → ℤ
machine x = to_z w32 (of_z w32 x)

pub low : (n : ℕ) → n < 2_147_483_648 → to_z w32 n ≡ pos n
low n h = rw (lt-ltb n 2_147_483_648 h) refl

-- ---- a negated number

pub negated : (n : ℕ) → n < 2_147_483_648 → pos 0 -ℤ to_z w32 n ≡ neg_ℤ (pos n)
negated n h = ap (λ (x : ℤ). pos 0 -ℤ x) (low n h) ∙ +ℤ_idl (neg_ℤ (pos n))

negated_fits : (n : ℕ) → n < 2_147_483_648 → SFits w32 (neg_ℤ (pos n))
negated_fits zero h = record { sfits = lit< tt }
negated_fits (suc n) h = record { sfits = omega arith }

pub negate_fits : (n : ℕ) → n < 2_147_483_648 → SFits w32 (pos 0 -ℤ to_z w32 n)
negate_fits n h = subst (SFits w32) (sym (negated n h)) (negated_fits n h)

pub negate : (n : ℕ) → n < 2_147_483_648 → machine (pos 0 -ℤ to_z w32 n) ≡ neg_ℤ (pos n)
negate n h = to_z-of_z w32 (pos 0 -ℤ to_z w32 n) (negate_fits n h) ∙ negated n h

-- ---- the sign

test_sign : (x : ℤ) → le_z (pos 0) x ≡ non_neg x
test_sign (pos n) = le-leb 0 n (omega arith)
test_sign (negsuc n) = refl

module _ (x : ℤ) (f : SFits w32 x) where
  pub same : machine x ≡ x
  same = to_z-of_z w32 x f

  pub sign_is : {b : Bool} → le_z (pos 0) (machine x) ≡ b → non_neg x ≡ b
  sign_is h = sym (test_sign x) ∙ ap (le_z (pos 0)) (sym same) ∙ h

  -- a number that is not negative, as it stands
  module _ (h : le_z (pos 0) (machine x) ≡ true) where
    up : (x : ℤ) → non_neg x ≡ true → T (non_neg x) × (nat_abs x ≡ mag x)
    up (pos n) h = (tt, refl)
    up (negsuc n) h = absurd (false≢true h)

    pub take_up : nat_abs (machine x) ≡ mag x
    take_up = ap nat_abs same ∙ (up x (sign_is h)).1

    pub take_up_fits : T (non_neg (machine x)) × Fits w64 (nat_abs (machine x))
    take_up_fits = (subst (λ (y : ℤ). T (non_neg y)) (sym same) (up x (sign_is h)).0, record { fits = let l = f.sfits in omega (arith, take_up) })

  -- a negative one: one more, and negated
  module _ (h : le_z (pos 0) (machine x) ≡ false) where
    up_one : (x : ℤ) → non_neg x ≡ false → SFits w32 x → SFits w32 (x +ℤ pos 1) × (pos 0 -ℤ (x +ℤ pos 1) ≡ pos (mag x))
    up_one (pos n) h f = absurd (false≢true (sym h))
    up_one (negsuc zero) h f = (record { sfits = lit< tt }, refl)
    up_one (negsuc (suc n)) h f =
        let l = f.sfits in
        let e : negsuc (suc n) +ℤ pos 1 ≡ negsuc n = +ℤ_one (negsuc (suc n)) in
        (subst (SFits w32) (sym e) (record { sfits = omega arith }), ap (λ (y : ℤ). pos 0 -ℤ y) e ∙ +ℤ_idl (pos (suc n)))

    one : SFits w32 (x +ℤ pos 1) × (pos 0 -ℤ (x +ℤ pos 1) ≡ pos (mag x))
    one = up_one x (sign_is h) f

    pub add_fits : SFits w32 (machine x +ℤ pos 1)
    add_fits = subst (λ (y : ℤ). SFits w32 (y +ℤ pos 1)) (sym same) one.0

    less : pos 0 -ℤ machine (machine x +ℤ pos 1) ≡ pos (mag x)
    less = ap (λ (y : ℤ). pos 0 -ℤ y) (to_z-of_z w32 (machine x +ℤ pos 1) add_fits ∙ ap (λ (y : ℤ). y +ℤ pos 1) same) ∙ one.1

    pub sub_fits : SFits w32 (pos 0 -ℤ machine (machine x +ℤ pos 1))
    sub_fits = subst (SFits w32) (sym less) (record { sfits = f.sfits })

    end : machine (pos 0 -ℤ machine (machine x +ℤ pos 1)) ≡ pos (mag x)
    end = to_z-of_z w32 (pos 0 -ℤ machine (machine x +ℤ pos 1)) sub_fits ∙ less

    pub take_down_fits : T (non_neg (machine (pos 0 -ℤ machine (machine x +ℤ pos 1)))) × Fits w64 (nat_abs (machine (pos 0 -ℤ machine (machine x +ℤ pos 1))))
    take_down_fits = subst (λ (z : ℤ). T (non_neg z) × Fits w64 (nat_abs z)) (sym end) (tt, record { fits = let l = f.sfits in omega arith })

    pub take_down : nat_abs (machine (pos 0 -ℤ machine (machine x +ℤ pos 1))) ≡ mag x
    take_down = ap nat_abs end
