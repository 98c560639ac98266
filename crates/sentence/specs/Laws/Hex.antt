-- Bytes as hex digits and digits as bytes, over every count of bytes, one way each. Assumes nothing.
use Rattle.std.specs.Prelude.{true, ◌&&◌, List, [], ◌∷◌, ◌≡◌, refl, ℕ, zero, suc, ◌+◌, ◌*◌, ◌/◌, ◌%◌, ◌<◌, ltb, length}
use Rattle.std.proofs.Math.Bool.{and-eq-true_iff}
use Rattle.std.proofs.Common.{ap, arith, lt-ltb, ltb-true}
use Rattle.bits.specs.Bits.{Bytes}
use Rattle.sentence.specs.Spelling.{digit_value, all_digits, hex_of, unhexed}
use Rattle.sentence.specs.Laws.Digits.{value_figure, figure_value}

pub hex_length : (s : List ℕ) → length (hex_of s) ≡ 2 * length s
unfolding hex_of
hex_length [] = refl
hex_length (b ∷ s) = omega (arith, hex_length s)

pub hex_digits : (s : List ℕ) → Bytes s → all_digits 16 (hex_of s) ≡ true
unfolding hex_of all_digits
hex_digits [] h = refl
hex_digits (b ∷ s) h =
    let k = h 0 in
    rw (value_figure (b / 16) (omega arith), value_figure (b % 16) (omega arith), lt-ltb (b / 16) 16 (omega arith), lt-ltb (b % 16) 16 (omega arith)) (hex_digits s (λ i. h (suc i)))

pub unhexed_hex : (s : List ℕ) → Bytes s → unhexed (hex_of s) ≡ s
unfolding hex_of unhexed
unhexed_hex [] h = refl
unhexed_hex (b ∷ s) h =
    let k = h 0 in
    let e : b / 16 % 16 * 16 + b % 16 % 16 ≡ b = omega arith in
    rw (value_figure (b / 16) (omega arith), value_figure (b % 16) (omega arith), e, unhexed_hex s (λ i. h (suc i)))

-- what an even count of digits spells: so many bytes, of which they are the digits
pub record Unhexed (s : List ℕ) (n : ℕ) : Type 0 where
  pub long : length (unhexed s) ≡ n
  pub fine : Bytes (unhexed s)
  pub again : hex_of (unhexed s) ≡ s

bytes_cons : (b : ℕ) (s : List ℕ) → b < 256 → Bytes s → Bytes (b ∷ s)
bytes_cons b s h k zero = h
bytes_cons b s h k (suc i) = k i

pub hex_unhexed : (n : ℕ) (s : List ℕ) → length s ≡ 2 * n → all_digits 16 s ≡ true → Unhexed s n
unfolding hex_of unhexed all_digits
hex_unhexed zero [] l a = record { long = refl; fine = λ i. omega arith; again = refl }
hex_unhexed zero (c ∷ s) l a = absurd (omega arith)
hex_unhexed (suc n) [] l a = absurd (omega arith)
hex_unhexed (suc n) (c ∷ []) l a = absurd (omega arith)
hex_unhexed (suc n) (c ∷ d ∷ s) l a =
    let x = (and-eq-true_iff (ltb (digit_value c) 16) (ltb (digit_value d) 16 && all_digits 16 s)).0 a in
    let y = (and-eq-true_iff (ltb (digit_value d) 16) (all_digits 16 s)).0 x.1 in
    pair (ltb-true (digit_value c) 16 x.0) (ltb-true (digit_value d) 16 y.0) (hex_unhexed n s (omega arith) y.1)
  where
    pair : digit_value c < 16 → digit_value d < 16 → Unhexed s n → Unhexed (c ∷ d ∷ s) (suc n)
    pair h l u =
        let v = digit_value c % 16 * 16 + digit_value d % 16 in
        let p : v / 16 ≡ digit_value c = omega arith in
        let q : v % 16 ≡ digit_value d = omega arith in
        record {
          long = ap suc u.long;
          fine = bytes_cons v (unhexed s) (omega arith) u.fine;
          again = rw (p, q, figure_value c h, figure_value d l, u.again) refl;
        }
