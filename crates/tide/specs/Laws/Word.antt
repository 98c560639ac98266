-- The 32 bits of an entry as one number: a part of what five bytes spell, and its fields are parts of it. Assumes nothing.
use Rattle.std.specs.Prelude.{ℕ, ◌+◌, ◌-◌, ◌*◌, ◌/◌, ◌%◌, ◌^◌, ◌≤◌, ◌<◌, ◌≡◌, refl, List, length, take, drop, get_or}
use Rattle.std.proofs.Common.{sym, ap, ◌∙◌, arith, add-zero, lit≤}
use Rattle.bits.specs.Answers.{got}
use Rattle.bits.specs.Bits.{Bytes, value_of, bits_of}
use Rattle.bits.specs.Laws.Answers.{got_fits}
use Rattle.bits.specs.Laws.Fields.{field_join}
use Rattle.bits.specs.Laws.Loops.{value_none, value_next}
use Rattle.bits.specs.Laws.Window.{field_window}
use Rattle.walk.specs.Laws.Reading.{got_lt}
use Rattle.tide.specs.Entries.{word_at}

module _ (s : List ℕ) where
  -- where all of it is there
  pub word_there : (at : ℕ) → at + 32 ≤ length s * 8 → got s at 32 ≡ word_at s at
  word_there at fits =
      let a = got_fits s at 32 (lit≤ tt) fits in
      let b = got_fits s at 21 (lit≤ tt) (omega arith) in
      let c = got_fits s (at + 21) 1 (lit≤ tt) (omega arith) in
      let d = got_fits s (at + 21 + 1) 10 (lit≤ tt) (omega arith) in
      omega (arith, a, b, c, d, field_join s at 21 11 fits, field_join s (at + 21) 1 10 (omega arith))

  -- five bytes as a number
  abbrev five : ℕ → ℕ
  five from = (((get_or s from 0 * 256 + get_or s (from + 1) 0) * 256 + get_or s (from + 2) 0) * 256 + get_or s (from + 3) 0) * 256 + get_or s (from + 4) 0

  five_bytes : (from : ℕ) → Bytes s → from + 5 ≤ length s → value_of (bits_of (take 5 (drop from s))) ≡ five from
  five_bytes from bytes fits =
      let e : get_or s (from + 0) 0 ≡ get_or s from 0 = ap (λ i. get_or s i 0) (add-zero from) in
      let a = value_next s from 0 (omega arith) (bytes (from + 0)) in
      let b = value_next s from 1 (omega arith) (bytes (from + 1)) in
      let c = value_next s from 2 (omega arith) (bytes (from + 2)) in
      let d = value_next s from 3 (omega arith) (bytes (from + 3)) in
      omega (arith, e, value_none, a, b, c, d, value_next s from 4 (omega arith) (bytes (from + 4)))

  pub word_by_five : (from skip : ℕ) → Bytes s → from + 5 ≤ length s → skip < 8 → five from / 2 ^ (8 - skip) % 2 ^ 32 ≡ word_at s (from * 8 + skip)
  word_by_five from skip bytes fits l =
      sym (ap (λ n. n / 2 ^ (8 - skip) % 2 ^ 32) (five_bytes from bytes fits)) ∙ sym (field_window s from 5 skip 32 (8 - skip) fits (omega arith))
      ∙ sym (got_fits s (from * 8 + skip) 32 (lit≤ tt) (omega arith)) ∙ word_there (from * 8 + skip) (omega arith)

  -- its fields
  pub word_fields : (at : ℕ) {v : ℕ} → v ≡ word_at s at → (v < 2 ^ 32) × (v / 2_048 ≡ got s at 21) × (v / 1_024 % 2 ≡ got s (at + 21) 1) × (v % 1_024 ≡ got s (at + 21 + 1) 10)
  word_fields at e =
      let a = got_lt s at 21 refl in
      let b = got_lt s (at + 21) 1 refl in
      let c = got_lt s (at + 21 + 1) 10 refl in
      (omega (arith, e, a, b, c), omega (arith, e, a, b, c), omega (arith, e, a, b, c), omega (arith, e, a, b, c))
