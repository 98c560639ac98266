-- The whole bytes that hold a field, as one number: what `read` takes it from, and what `write` makes of them.
use Rattle.std.specs.Prelude.{Bool, true, false, ◌≡◌, refl, get_or, leb}
use mathlib.Core.List.{List, ◌++◌, append_assoc}
use Rattle.std.proofs.Math.Path.{sym}
use Rattle.std.proofs.Common.{ap, ◌∙◌, lt_of_lt_of_le, add-zero, div-one, div-add-mod', one-mul, mod-eq_of_lt, length-append, length-drop, take-append-drop, le-leb, leb-true, shl_exact, shr_lt, pow-add, pow_mono, length-take-le}
use Prim.Native.Nat.{ℕ, ◌+◌, ◌*◌, ◌-◌, ◌/◌, ◌%◌, ◌^◌, ◌≤◌, ◌<◌}
use native.Mathlib.Omega.{arith}
use Rattle.std.proofs.Math.Arith.{digits_lt}
use Rattle.std.proofs.Math.ListN.{length, take, drop, length-take}
use Rattle.std.specs.Int.Bits.{bit_and}
use Rattle.std.proofs.lemmas.Nat.{and_mask}
use Rattle.std.proofs.Math.Seq.{drop-drop, take-add}
use Rattle.bits.specs.Bits.{Bytes, value_of, digits, bits_of, field_at, put_at}
use Rattle.bits.specs.Laws.Bytes.{length_bits, bits_append, length_bytes, bytes_below, bytes_append, bytes_take, bytes_drop, bits_bytes, bytes_bits}
use Rattle.bits.specs.Laws.Digits.{digits_zero, value_digits_mod, length_digits, digits_add, digits_two, digits_value}
use Rattle.bits.specs.Laws.Fields.{field_split, field_lt, field_bits, bits_take, bits_drop}
use Rattle.bits.specs.Laws.Loops.{packed, value_none, value_next}

-- ---- the n bytes from `at`: `skip` bits, then a field of w bits, then `spare` bits

module _ (s : List ℕ) (at n skip w spare : ℕ) (fits : at + n ≤ length s) (whole : n * 8 ≡ skip + w + spare) where
  abbrev all : ℕ
  all = value_of (bits_of (take n (drop at s)))

  bits_window : bits_of s
      ≡ bits_of (take at s) ++ digits skip (all / 2 ^ spare / 2 ^ w) ++ (digits w (all / 2 ^ spare) ++ (digits spare all ++ bits_of (drop (at + n) s)))
  bits_window =
      let parts : bits_of (take n (drop at s)) ≡ digits skip (all / 2 ^ spare / 2 ^ w) ++ digits w (all / 2 ^ spare) ++ digits spare all =
      sym (digits_value (n * 8) (bits_of (take n (drop at s))) (simp (length_bits, length-take, length-drop) (omega arith)))
      ∙ rw (whole, digits_add (skip + w) spare all, digits_add skip w (all / 2 ^ spare)) in
      let split : s ≡ take at s ++ (take n (drop at s) ++ drop (at + n) s) =
      sym (rw (← drop-drop n at s, take-append-drop n (drop at s)) (take-append-drop at s)) in
      ap bits_of split
      ∙ bits_append (take at s) (take n (drop at s) ++ drop (at + n) s)
      ∙ ap (λ (l : List Bool). bits_of (take at s) ++ l) (bits_append (take n (drop at s)) (drop (at + n) s) ∙ ap (◌++ bits_of (drop (at + n) s)) parts)
      ∙ simp append_assoc

  pub field_window : field_at s (at * 8 + skip) w ≡ all / 2 ^ spare % 2 ^ w
  field_window =
      field_split s (at * 8 + skip) w (bits_of (take at s) ++ digits skip (all / 2 ^ spare / 2 ^ w)) (digits w (all / 2 ^ spare)) (digits spare all ++ bits_of (drop (at + n) s))
      bits_window
      (simp (length-append, length_bits, length_digits, length-take-le at s (omega arith)))
      (length_digits w (all / 2 ^ spare))
      ∙ value_digits_mod w (all / 2 ^ spare)

  -- the window's number once the field is v: the bits before and after it stay
  abbrev renewed : ℕ → ℕ
  renewed v = (field_at s (at * 8) skip * 2 ^ w + v) * 2 ^ spare + field_at s (at * 8 + skip + w) spare

  bits_renewed : (v : ℕ) → v < 2 ^ w → bits_of (packed n (renewed v))
      ≡ digits skip (field_at s (at * 8) skip) ++ digits w v ++ digits spare (field_at s (at * 8 + skip + w) spare)
  bits_renewed v h =
      bits_bytes n (digits (n * 8) (renewed v)) (length_digits (n * 8) (renewed v))
      ∙ rw (
        whole,
        digits_two (skip + w) spare (field_at s (at * 8) skip * 2 ^ w + v) (field_lt s (at * 8 + skip + w) spare),
        digits_two skip w (field_at s (at * 8) skip) h,
      )

  pub put_window : Bytes s → (v : ℕ) → v < 2 ^ w → put_at s (at * 8 + skip) w v ≡ take at s ++ (packed n (renewed v) ++ drop (at + n) s)
  unfolding put_at
  put_window bytes v h =
      let t : List ℕ = take at s ++ (packed n (renewed v) ++ drop (at + n) s) in
      let below : Bytes t = bytes_append (take at s) (packed n (renewed v) ++ drop (at + n) s) (bytes_take at s bytes)
      (bytes_append (packed n (renewed v)) (drop (at + n) s) (bytes_below n (digits (n * 8) (renewed v))) (bytes_drop (at + n) s bytes)) in
      let same : length t ≡ length s = simp (length-append, length_bytes, length-take, length-drop) (omega arith) in
      let end : at * 8 + skip + w + spare ≡ (at + n) * 8 = omega arith in
      let after : drop (at * 8 + skip + w) (bits_of s) ≡ digits spare (field_at s (at * 8 + skip + w) spare) ++ bits_of (drop (at + n) s) =
      sym (take-append-drop spare (drop (at * 8 + skip + w) (bits_of s)))
      ∙ rw (field_bits s (at * 8 + skip + w) spare (omega arith), drop-drop spare (at * 8 + skip + w) (bits_of s), end, bits_drop (at + n) s fits) in
      let bits : take (at * 8 + skip) (bits_of s) ++ (digits w v ++ drop (at * 8 + skip + w) (bits_of s)) ≡ bits_of t =
      rw (after, take-add (at * 8) skip (bits_of s), field_bits s (at * 8) skip (omega arith), ← bits_take at s (omega arith))
      (sym (rw (bits_append (take at s) (packed n (renewed v) ++ drop (at + n) s), bits_append (packed n (renewed v)) (drop (at + n) s), bits_renewed v h) (simp append_assoc))) in
      rw (bits, ← same) (bytes_bits t below)

-- ---- reading, in the code's terms: the field at bit `at` in n bytes

pub one_shifted : (w : ℕ) → w ≤ 32 → (1 * 2 ^ w) % 2 ^ 64 ≡ 2 ^ w
one_shifted w h = shl_exact {a = 1} 1 w 64 (omega arith) (omega arith) ∙ one-mul (2 ^ w)

pub part_is_field : (s : List ℕ) (at w n : ℕ) → w ≤ 32 → at % 8 + w ≤ n * 8 → at / 8 + n ≤ length s
    → bit_and (value_of (bits_of (take n (drop (at / 8) s))) / 2 ^ (n * 8 - at % 8 - w)) ((1 * 2 ^ w) % 2 ^ 64 - 1) ≡ field_at s at w
part_is_field s at w n narrow long fits =
    rw (one_shifted w narrow)
    (and_mask (value_of (bits_of (take n (drop (at / 8) s))) / 2 ^ (n * 8 - at % 8 - w)) w
    ∙ (sym (field_window s (at / 8) n (at % 8) w (n * 8 - at % 8 - w) fits (omega arith)) ∙ rw (div-add-mod' at 8)))

-- ---- writing, in the code's terms

-- a field of no bits
pub put_none : (s : List ℕ) (at w v : ℕ) → Bytes s → w ≡ 0 → at ≤ length s * 8 → s ≡ put_at s at w v
unfolding put_at
put_none s at w v bytes e fits = sym (rw (e, digits_zero, add-zero at, take-append-drop at (bits_of s)) (bytes_bits s bytes))

value_byte : (s : List ℕ) (k : ℕ) → Bytes s → k < length s → value_of (bits_of (take 1 (drop k s))) ≡ get_or s k 0
value_byte s k bytes h =
    omega (arith, value_next s k 0 (omega arith) (bytes (k + 0)), value_none, ap (λ (i : ℕ). get_or s i 0) (add-zero k))

-- the first bits of a byte, and its last
byte_start : (s : List ℕ) (k skip : ℕ) → Bytes s → k < length s → skip ≤ 8 → field_at s (k * 8) skip ≡ get_or s k 0 / 2 ^ (8 - skip)
byte_start s k skip bytes h few =
    let e : skip + (8 - skip) ≡ 8 = omega arith in
    let byte : get_or s k 0 < 2 ^ (skip + (8 - skip)) = rw e (bytes k) in
    ap (λ (x : ℕ). field_at s x skip) (sym (add-zero (k * 8)))
    ∙ (field_window s k 1 0 skip (8 - skip) (omega arith) (omega arith) ∙ rw (value_byte s k bytes h) (mod-eq_of_lt (shr_lt skip (8 - skip) byte)))

byte_end : (s : List ℕ) (k spare : ℕ) → Bytes s → k < length s → spare ≤ 8 → field_at s (k * 8 + (8 - spare)) spare ≡ get_or s k 0 % 2 ^ spare
byte_end s k spare bytes h few =
    field_window s k 1 (8 - spare) spare 0 (omega arith) (omega arith) ∙ rw (value_byte s k bytes h, div-one (get_or s k 0))

module _ (s : List ℕ) (at w v : ℕ) (some : 0 < w) (narrow : w ≤ 32) (fits : at + w ≤ length s * 8) (small : v < 2 ^ w) (bytes : Bytes s) where
  abbrev from : ℕ
  from = at / 8

  abbrev count : ℕ
  count = (at % 8 + w + 7) / 8

  abbrev spare : ℕ
  spare = count * 8 - at % 8 - w

  abbrev first : ℕ
  first = get_or s from 0 / 2 ^ (8 - at % 8)

  abbrev last : ℕ
  last = get_or s (from + count - 1) 0 % ((1 * 2 ^ spare) % 2 ^ 64)

  abbrev high : ℕ
  high = (first * 2 ^ w) % 2 ^ 64 + v

  first_is : field_at s (from * 8) (at % 8) ≡ first
  first_is = byte_start s from (at % 8) bytes (omega arith) (omega arith)

  last_is : field_at s (from * 8 + at % 8 + w) spare ≡ last
  last_is =
      let offset : from * 8 + at % 8 + w ≡ (from + count - 1) * 8 + (8 - spare) = omega arith in
      rw (offset, one_shifted spare (omega arith)) (byte_end s (from + count - 1) spare bytes (omega arith) (omega arith))

  high_is : high ≡ field_at s (from * 8) (at % 8) * 2 ^ w + v
  high_is = rw (← first_is, shl_exact (at % 8) w 64 (field_lt s (from * 8) (at % 8)) (omega arith))

  high_lt : high < 2 ^ (at % 8 + w)
  high_lt = rw (high_is, pow-add 2 (at % 8) w) (digits_lt (field_lt s (from * 8) (at % 8)) small)

  pub high_fits : high < 2 ^ 64
  high_fits = lt_of_lt_of_le high_lt (pow_mono {j = 64} (omega arith))

  stored_is : (high * 2 ^ spare) % 2 ^ 64 + last ≡ (field_at s (from * 8) (at % 8) * 2 ^ w + v) * 2 ^ spare + field_at s (from * 8 + at % 8 + w) spare
  stored_is = rw (shl_exact (at % 8 + w) spare 64 high_lt (omega arith), high_is, last_is)

  pub stored_fits : (high * 2 ^ spare) % 2 ^ 64 + last < 2 ^ 64
  stored_fits =
      let less : high * 2 ^ spare + field_at s (from * 8 + at % 8 + w) spare < 2 ^ (at % 8 + w) * 2 ^ spare =
      digits_lt high_lt (field_lt s (from * 8 + at % 8 + w) spare) in
      rw (stored_is, ← high_is) (lt_of_lt_of_le less (rw (← pow-add 2 (at % 8 + w) spare) (pow_mono {j = 64} (omega arith))))

  pub put_is_store : put_at s at w v ≡ take from s ++ (packed count ((high * 2 ^ spare) % 2 ^ 64 + last) ++ drop (from + count) s)
  put_is_store =
      rw (stored_is, ← put_window s from count (at % 8) w spare (omega arith) (omega arith) bytes v small, div-add-mod' at 8)

-- ---- the tests of `holds` and `put`

-- two tests that follow from each other
same : (t u : Bool) → (t ≡ true → u ≡ true) → (u ≡ true → t ≡ true) → t ≡ u
same true u f g = sym (f refl)
same false true f g = g refl
same false false f g = refl

pub same_test : (a b c d : ℕ) → (a ≤ b → c ≤ d) → (c ≤ d → a ≤ b) → leb a b ≡ leb c d
same_test a b c d f g =
    same (leb a b) (leb c d) (λ h. le-leb c d (f (leb-true a b h))) (λ h. le-leb a b (g (leb-true c d h)))
