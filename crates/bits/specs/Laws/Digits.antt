-- A number and its w bits determine each other: laws over every width, by induction on the width. Assumes nothing.
use Rattle.std.specs.Prelude.{Bool, true, false, List, [], ◌∷◌, ◌++◌, ◌≡◌, refl, ℕ, zero, suc, ◌+◌, ◌*◌, ◌/◌, ◌%◌, ◌^◌, ◌≤◌, ◌<◌, eqb, length, take, drop}
use Rattle.std.proofs.Common.{sym, ap, ◌∙◌, lt_of_not-le, mod-lt, mod-eq_of_lt, mul_assoc, suc-add, zero-add, add_comm, lt_of_lt_of_le, one-add, arith, length-append, length-take, pow-add, pow_pos, pow_mono, shr-shr}
use Rattle.std.proofs.Math.Nat.{div-eq_of_lt, mod-one, pow-succ', mul-add-div_right, mul-add-mod_self_right}
use Rattle.std.proofs.Math.Arith.{digits_div, digits_lt}
use Rattle.std.proofs.lemmas.Nat.{mod-pow-add}
use Rattle.std.proofs.Math.Pow.{split}
use Rattle.bits.specs.Bits.{bit, value_of, digits, bits_of, bytes_of}

-- ---- one bit

pub bit_lt : (b : Bool) → bit b < 2
unfolding bit
bit_lt true = omega arith
bit_lt false = omega arith

-- the bit that a remainder by 2 is
bit_below : (n : ℕ) → n < 2 → bit (eqb n 1) ≡ n
unfolding bit
bit_below zero h = refl
bit_below (suc zero) h = refl
bit_below (suc (suc n)) h = absurd (omega arith)

bit_eqb : (b : Bool) → eqb (bit b) 1 ≡ b
unfolding bit
bit_eqb true = refl
bit_eqb false = refl

-- ---- the clauses, as equations to rewrite by where the definitions stay shut

pub value_nil : value_of [] ≡ 0
unfolding value_of
value_nil = refl

pub value_cons : (b : Bool) (l : List Bool) → value_of (b ∷ l) ≡ bit b * 2 ^ length l + value_of l
unfolding value_of
value_cons b l = refl

pub digits_zero : (v : ℕ) → digits zero v ≡ []
unfolding digits
digits_zero v = refl

pub digits_suc : (w v : ℕ) → digits (suc w) v ≡ eqb (v / 2 ^ w % 2) 1 ∷ digits w v
unfolding digits
digits_suc w v = refl

pub bits_nil : bits_of [] ≡ []
unfolding bits_of
bits_nil = refl

pub bytes_zero : (l : List Bool) → bytes_of zero l ≡ []
unfolding bytes_of
bytes_zero l = refl

pub bits_cons : (b : ℕ) (s : List ℕ) → bits_of (b ∷ s) ≡ digits 8 b ++ bits_of s
unfolding bits_of
bits_cons b s = refl

pub bytes_suc : (n : ℕ) (l : List Bool) → bytes_of (suc n) l ≡ value_of (take 8 l) ∷ bytes_of n (drop 8 l)
unfolding bytes_of
bytes_suc n l = refl

-- ---- numbers and bits

pub length_digits : (w v : ℕ) → length (digits w v) ≡ w
unfolding digits
length_digits zero v = refl
length_digits (suc w) v = ap suc (length_digits w v)

pub value_append : (xs ys : List Bool) → value_of (xs ++ ys) ≡ value_of xs * 2 ^ length ys + value_of ys
value_append [] ys = rw value_nil (omega arith)
value_append (x ∷ xs) ys = rw (value_cons, length-append xs ys, pow-add, value_append xs ys, value_cons) (omega arith)

pub value_lt : (l : List Bool) → value_of l < 2 ^ length l
unfolding value_of
value_lt [] = omega arith
value_lt (b ∷ bs) = rw (pow-succ' 2 (length bs)) (digits_lt (bit_lt b) (value_lt bs))

pub value_take_lt : (w : ℕ) (l : List Bool) → value_of (take w l) < 2 ^ w
value_take_lt w l = lt_of_lt_of_le (value_lt (take w l)) (pow_mono (simp length-take (omega arith)))

pub value_digits_mod : (w v : ℕ) → value_of (digits w v) ≡ v % 2 ^ w
value_digits_mod zero v = rw (digits_zero, value_nil) (sym (mod-one v))
value_digits_mod (suc w) v =
    rw (digits_suc, value_cons, length_digits, bit_below (v / 2 ^ w % 2) (mod-lt (v / 2 ^ w) (omega arith)), value_digits_mod w v)
    (rw (← one-add w) (sym (mod-pow-add v 1 w)))

pub value_digits : (w : ℕ) {v : ℕ} → v < 2 ^ w → value_of (digits w v) ≡ v
value_digits w {v} h = value_digits_mod w v ∙ mod-eq_of_lt h

-- the high j bits of j + k, then the low k
pub digits_add : (j k v : ℕ) → digits (j + k) v ≡ digits j (v / 2 ^ k) ++ digits k v
unfolding digits
digits_add zero k v = ap (λ (n : ℕ). digits n v) (zero-add k)
digits_add (suc j) k v = rw (suc-add, digits_add j k v, shr-shr, add_comm k j)

-- what stands above the low w bits does not show in them
pub digits_low : (w h v : ℕ) → digits w (h * 2 ^ w + v) ≡ digits w v
digits_low zero h v = digits_zero (h * 2 ^ zero + v) ∙ sym (digits_zero v)
digits_low (suc w) h v =
    rw (digits_suc, pow-succ' 2 w, ← mul_assoc h 2 (2 ^ w), mul-add-div_right (pow_pos w) (h * 2) v, mul-add-mod_self_right h 2, digits_low w (h * 2) v)
    (sym (digits_suc w v))

-- a number made of two parts has the bits of the one, then of the other
pub digits_two : (j k a : ℕ) {b : ℕ} → b < 2 ^ k → digits (j + k) (a * 2 ^ k + b) ≡ digits j a ++ digits k b
digits_two j k a {b} h = rw (digits_add, digits_div a h, digits_low)

digits_length : (l : List Bool) → digits (length l) (value_of l) ≡ l
digits_length [] = digits_zero (value_of [])
digits_length (b ∷ l) =
    rw (digits_suc, value_cons, digits_div (bit b) (value_lt l), mod-eq_of_lt (bit_lt b), bit_eqb, digits_low, digits_length l)

pub digits_value : (w : ℕ) (l : List Bool) → length l ≡ w → digits w (value_of l) ≡ l
digits_value w l h = rw (← h) (digits_length l)

-- a value has at most w bits where nothing is left of it behind them
pub small : (v w : ℕ) → v / 2 ^ w ≡ 0 → v < 2 ^ w
small v w e = omega (arith, split v w, mod-lt v (pow_pos w), ap (λ (x : ℕ). x * 2 ^ w) e)

pub large : (v w : ℕ) → (v / 2 ^ w ≡ 0 → ⊥) → 2 ^ w ≤ v
large v w f = let h : 2 ^ w < suc v = lt_of_not-le (λ l. f (div-eq_of_lt l)) in omega arith
