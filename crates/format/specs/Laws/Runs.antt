-- A run of whole bytes that a layout holds as one number: the bytes spell it, and it spells the bytes, wherever in a message they stand. Assumes nothing.
use Rattle.std.specs.Prelude.{◌≡◌, List, ℕ, ◌+◌, ◌*◌, ◌≤◌, ◌<◌, ◌^◌, length, take, drop}
use Rattle.std.proofs.Common.{sym, ap, ◌∙◌, arith, length-drop, length-take-le}
use Rattle.bits.specs.Bits.{Bytes, value_of, digits, bits_of, bytes_of, bytes_at}
use Rattle.bits.specs.Laws.Bytes.{length_bits, length_bytes, bits_pack, bits_bytes, bits_same, bytes_bits, bytes_below}
use Rattle.bits.specs.Laws.Digits.{length_digits, value_digits, digits_value}

-- the number's bits are those of the bytes
pub run_bits : (c : List ℕ) → digits (length c * 8) (value_of (bits_of c)) ≡ bits_of c
run_bits c = digits_value (length c * 8) (bits_of c) (length_bits c)

-- the bytes are those of their number
pub run_again : (c : List ℕ) → Bytes c → bytes_of (length c) (digits (length c * 8) (value_of (bits_of c))) ≡ c
run_again c fine = ap (bytes_of (length c)) (run_bits c) ∙ bytes_bits c fine

-- and the number that of its bytes
pub run_value : (n v : ℕ) → v < 2 ^ (n * 8) → value_of (bits_of (bytes_of n (digits (n * 8) v))) ≡ v
run_value n v l = ap value_of (bits_bytes n (digits (n * 8) v) (length_digits (n * 8) v)) ∙ value_digits (n * 8) l

-- a number that stands from bit `at` of s on is that of the bytes which stand there
pub run_stands : (s : List ℕ) (at n v : ℕ) → at + n * 8 ≤ length s * 8 → v ≡ value_of (take (n * 8) (drop at (bits_of s))) → bytes_of n (digits (n * 8) v) ≡ bytes_at s at n
unfolding bytes_at
run_stands s at n v fits is =
    let b = drop at (bits_of s) in
    let m : n * 8 ≤ length b = omega (arith, length-drop at (bits_of s), length_bits s) in
    let whole : digits (n * 8) v ≡ take (n * 8) b = ap (digits (n * 8)) is ∙ digits_value (n * 8) (take (n * 8) b) (length-take-le (n * 8) b m) in
    bits_same (bytes_of n (digits (n * 8) v)) (bytes_of n b) (bytes_below n _) (bytes_below n b) (length_bytes n (digits (n * 8) v) ∙ sym (length_bytes n b))
    (bits_bytes n (digits (n * 8) v) (length_digits (n * 8) v) ∙ whole ∙ sym (bits_pack n b m))
