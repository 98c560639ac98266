-- The turns of the loops: `gather` reads bytes into a number, and `scatter` stores a number as bytes.
use Rattle.std.specs.Prelude.{List, [], ◌∷◌, ◌++◌, ◌≡◌, ℕ, suc, ◌+◌, ◌*◌, ◌-◌, ◌/◌, ◌%◌, ◌^◌, ◌≤◌, ◌<◌, length, take, drop, get_or, set}
use Rattle.std.proofs.Common.{append_assoc, append-nil, sym, lt_of_lt_of_le, add-zero, div-one, suc-mul, add_comm, arith, length-take, length-drop, take-append-drop, pow_mono, shr-shr, take_at, drop_at, take-suc, length-take-le, get_or-drop, add-one}
use Rattle.std.proofs.Math.Nat.{sub-zero, sub_self}
use Rattle.std.proofs.lemmas.List.{set_at}
use Rattle.bits.specs.Bits.{value_of, digits, bits_of, bytes_of}
use Rattle.bits.specs.Laws.Bytes.{length_bits, bits_append}
use Rattle.bits.specs.Laws.Digits.{value_append, value_lt, value_nil, value_digits, value_digits_mod, length_digits, digits_add, bits_cons, bits_nil, bytes_suc, bytes_zero}

-- ---- gather

value_snoc : (s : List ℕ) (b : ℕ) → b < 256 → value_of (bits_of (s ++ (b ∷ []))) ≡ value_of (bits_of s) * 256 + b
value_snoc s b h =
    rw (bits_append s (b ∷ []), bits_cons, bits_nil, append-nil, value_append (bits_of s) (digits 8 b), length_digits, value_digits 8 h)

pub value_take_lt : (k n : ℕ) (s : List ℕ) → k ≤ n → value_of (bits_of (take k s)) < 2 ^ (n * 8)
value_take_lt k n s h =
    lt_of_lt_of_le (value_lt (bits_of (take k s))) (pow_mono (simp (length_bits, length-take) (omega arith)))

pub value_none : value_of (bits_of []) ≡ 0
value_none = rw (bits_nil, value_nil)

pub value_next : (s : List ℕ) (at k : ℕ) → at + k < length s → get_or s (at + k) 0 < 256
    → value_of (bits_of (take (k + 1) (drop at s))) ≡ value_of (bits_of (take k (drop at s))) * 256 + get_or s (at + k) 0
value_next s at k h b =
    rw (add-one k, take-suc (drop at s) k 0 (simp length-drop (omega arith)), get_or-drop at s k 0, value_snoc (take k (drop at s)) (get_or s (at + k) 0) b)

-- ---- scatter

-- the n bytes that spell v
abbrev pub packed : ℕ → ℕ → List ℕ
packed n v = bytes_of n (digits (n * 8) v)

packed_suc : (n v : ℕ) → packed (suc n) v ≡ v / 2 ^ (n * 8) % 256 ∷ packed n v
packed_suc n v =
    rw (
      suc-mul n 8,
      add_comm (n * 8) 8,
      digits_add 8 (n * 8) v,
      bytes_suc,
      take_at (digits 8 (v / 2 ^ (n * 8))) (digits (n * 8) v) 8 (length_digits 8 (v / 2 ^ (n * 8))),
      drop_at (digits 8 (v / 2 ^ (n * 8))) (digits (n * 8) v) 8 (length_digits 8 (v / 2 ^ (n * 8))),
      value_digits_mod,
    )

-- s, with the n bytes from `at` made those of v, of which the first k still are as they were
abbrev pub filled : List ℕ → ℕ → ℕ → ℕ → ℕ → List ℕ
filled s at n k v = take (at + k) s ++ (packed (n - k) v ++ drop (at + n) s)

pub filled_none : (s : List ℕ) (at n v : ℕ) → s ≡ filled s at n n v
filled_none s at n v = sym (rw (sub_self n, bytes_zero) (take-append-drop (at + n) s))

module _ (s : List ℕ) (at n k v : ℕ) (pos : 0 < k) (h : k ≤ n) where
  one_more : n - (k - 1) ≡ suc (n - k)
  one_more = omega arith

  pub filled_next : at + n ≤ length s → set (filled s at n k v) (at + (k - 1)) (v / 2 ^ ((n - k) * 8) % 256) ≡ filled s at n (k - 1) v
  filled_next fits =
      let e : at + k ≡ suc (at + (k - 1)) = omega arith in
      rw (one_more, packed_suc (n - k) v, e, take-suc s (at + (k - 1)) 0 (omega arith), append_assoc)
      (set_at (take (at + (k - 1)) s) (get_or s (at + (k - 1)) 0) (packed (n - k) v ++ drop (at + n) s) (v / 2 ^ ((n - k) * 8) % 256) (at + (k - 1))
      (length-take-le (at + (k - 1)) s (omega arith)))

  pub rest_next : v / 2 ^ ((n - k) * 8) / 256 ≡ v / 2 ^ ((n - (k - 1)) * 8)
  rest_next = rw (shr-shr v ((n - k) * 8) 8, one_more, suc-mul)

pub filled_all : (s : List ℕ) (at n v : ℕ) → filled s at n 0 v ≡ take at s ++ (packed n v ++ drop (at + n) s)
filled_all s at n v = rw (add-zero at, sub-zero n)

pub rest_none : (n v : ℕ) → v ≡ v / 2 ^ ((n - n) * 8)
rest_none n v = sym (rw (sub_self n) (div-one v))
