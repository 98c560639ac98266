-- The exclusive or of a list, one byte more, and that exclusive or is associative: digit by digit. Assumes nothing.
use Rattle.std.specs.Prelude.{List, ◌≡◌, refl, ℕ, zero, suc, ◌+◌, ◌/◌, ◌%◌, ◌<◌, length, drop, get_or}
use Rattle.std.proofs.Common.{ap, ◌∙◌, add-one, arith, drop-cons}
use Rattle.std.proofs.Math.Arith.{bin_ind, digits_mod}
use Rattle.std.specs.Int.Bits.{bit_xor, differ, xor_step}
use Rattle.std.proofs.lemmas.Nat.{xor_shr}
use Rattle.bits.specs.Xor.{xor_of}

pub xor_drop : (s : List ℕ) (i : ℕ) → i < length s → xor_of (drop i s) ≡ bit_xor (get_or s i 0) (xor_of (drop (i + 1) s))
unfolding xor_of
xor_drop s i h = rw (add-one i, drop-cons s i 0)

-- ---- exclusive or is associative, digit by digit

differ_lt : (x y : ℕ) → x < 2 → y < 2 → differ x y < 2
differ_lt zero y hx hy = hy
differ_lt (suc zero) zero hx hy = hx
differ_lt (suc zero) (suc zero) hx hy = omega arith
differ_lt (suc zero) (suc (suc y)) hx hy = absurd (omega arith)
differ_lt (suc (suc x)) y hx hy = absurd (omega arith)

differ_assoc : (x y z : ℕ) → x < 2 → y < 2 → z < 2 → differ (differ x y) z ≡ differ x (differ y z)
differ_assoc zero y z hx hy hz = refl
differ_assoc (suc zero) zero z hx hy hz = refl
differ_assoc (suc zero) (suc zero) zero hx hy hz = refl
differ_assoc (suc zero) (suc zero) (suc zero) hx hy hz = refl
differ_assoc (suc zero) (suc zero) (suc (suc z)) hx hy hz = absurd (omega arith)
differ_assoc (suc zero) (suc (suc y)) z hx hy hz = absurd (omega arith)
differ_assoc (suc (suc x)) y z hx hy hz = absurd (omega arith)

odd_lt : (a : ℕ) → a % 2 < 2
odd_lt a = omega arith

xor_odd : (a b : ℕ) → bit_xor a b % 2 ≡ differ (a % 2) (b % 2)
xor_odd a b =
    ap (λ (x : ℕ). x % 2) (xor_step a b)
    ∙ digits_mod (bit_xor (a / 2) (b / 2)) (differ_lt (a % 2) (b % 2) (odd_lt a) (odd_lt b))

pub xor_assoc : (a b c : ℕ) → bit_xor (bit_xor a b) c ≡ bit_xor a (bit_xor b c)
xor_assoc =
    bin_ind (λ (a : ℕ). (b c : ℕ) → bit_xor (bit_xor a b) c ≡ bit_xor a (bit_xor b c))
    (λ b c. refl)
    (λ a ih b c. cc (
      xor_step (bit_xor a b) c,
      xor_step a (bit_xor b c),
      xor_shr a b 1,
      xor_shr b c 1,
      xor_odd a b,
      xor_odd b c,
      ih (b / 2) (c / 2),
      differ_assoc (a % 2) (b % 2) (c % 2) (odd_lt a) (odd_lt b) (odd_lt c),
    ))
