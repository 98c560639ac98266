-- A byte at any bit is a part of two neighbour bytes.
use Rattle.std.specs.Prelude.{List, ◌≡◌, ℕ, zero, suc, ◌+◌, ◌*◌, ◌-◌, ◌/◌, ◌%◌, ◌^◌, ◌≤◌, ◌<◌, length, take, drop, get_or}
use Rattle.std.proofs.Common.{ap, add-zero, mod-eq_of_lt, arith}
use Rattle.std.proofs.Math.Arith.{digits_div}
use Rattle.bits.specs.Bits.{Bytes, value_of, bits_of, field_at}
use Rattle.bits.specs.Laws.Fields.{field_byte}
use Rattle.bits.specs.Laws.Loops.{value_none, value_next}
use Rattle.bits.specs.Laws.Window.{field_window}
use Rattle.bits.specs.Across.{across_of}

value_pair : (s : List ℕ) (k : ℕ) → Bytes s → k + 1 < length s → value_of (bits_of (take 2 (drop k s))) ≡ get_or s k 0 * 256 + get_or s (k + 1) 0
value_pair s k bytes h =
    omega (arith, value_next s k 1 h (bytes (k + 1)), value_next s k 0 (omega arith) (bytes (k + 0)), value_none, ap (λ (i : ℕ). get_or s i 0) (add-zero k))

-- the byte that starts `skip` bits into the byte k
byte_pair : (s : List ℕ) (k skip : ℕ) → Bytes s → skip < 8 → k * 8 + skip + 8 ≤ length s * 8
    → field_at s (k * 8 + skip) 8 ≡ (get_or s k 0 * 256 + get_or s (k + (skip + 7) / 8) 0) / 2 ^ (8 - skip) % 256
byte_pair s k zero bytes h fits =
    rw (add-zero (k * 8), add-zero k, digits_div (get_or s k 0) (bytes k), mod-eq_of_lt (bytes k)) (field_byte s k bytes (omega arith))
byte_pair s k (suc j) bytes h fits =
    let e : (suc j + 7) / 8 ≡ 1 = omega arith in
    rw (e, ← value_pair s k bytes (omega arith)) (field_window s k 2 (suc j) 8 (8 - suc j) (omega arith) (omega arith))

-- the byte i of the run that starts at bit `at`, whose byte 0 ends in the byte `low`
pub byte_across : (s : List ℕ) (at i low : ℕ) → Bytes s → low ≡ (at + 7) / 8 → at + (i + 1) * 8 ≤ length s * 8
    → across_of (get_or s (at / 8 + i) 0) (get_or s (low + i) 0) at ≡ field_at s (at + i * 8) 8
byte_across s at i low bytes e fits =
    let offset : at + i * 8 ≡ (at / 8 + i) * 8 + at % 8 = omega arith in
    let end : low + i ≡ at / 8 + i + (at % 8 + 7) / 8 = omega arith in
    rw (end, ← byte_pair s (at / 8 + i) (at % 8) bytes (omega arith) (omega arith), offset)
