-- The bytes of a run that are still to be looked at, and what one more of them, or a pair, says of a text.
use mathlib.Core.Bool.{Bool, true, false, ◌&&◌, and-true, and_assoc}
use mathlib.Core.List.{List, [], ◌∷◌}
use mathlib.Core.Path.{◌≡◌, refl, sym, ◌∙◌}
use Prim.Native.Nat.{ℕ, suc, ◌+◌, ◌*◌, ◌-◌, ◌/◌, ◌≤◌, ◌<◌}
use native.Mathlib.Omega.{arith}
use lib.ListN.{length, get_or}
use lib.Seq.{drop-drop}
use Rattle.bits.specs.Bits.{Bytes, bits_of, field_at, bytes_at}
use Rattle.bits.specs.Laws.Digits.{bytes_zero, bytes_suc}
use Rattle.bits.specs.Across.{across_of}
use Rattle.bits.specs.Laws.Pairs.{byte_across}
use Rattle.text.specs.Text.{plain, level_one, english, chinese}

-- the n bytes from bit `at`, without the first i
abbrev pub left : List ℕ → ℕ → ℕ → ℕ → List ℕ
left s at n i = bytes_at s (at + i * 8) (n - i)

module _ (s : List ℕ) (at n : ℕ) where
  pub left_all : left s at n 0 ≡ bytes_at s at n
  left_all =
      let offset : at + 0 * 8 ≡ at = omega arith in
      let count : n - 0 ≡ n = omega arith in
      rw (offset, count)

  pub left_none : (i : ℕ) → n ≤ i → left s at n i ≡ []
  unfolding bytes_at
  left_none i h = let count : n - i ≡ 0 = omega arith in rw (count, bytes_zero)

  -- the byte x that a turn of a loop takes from its two neighbours is the next one
  module _ (bytes : Bytes s) (fits : at + n * 8 ≤ length s * 8) (low : ℕ) (e : low ≡ (at + 7) / 8) where
    pub left_next : (i : ℕ) {x : ℕ} → i < n → x ≡ across_of (get_or s (at / 8 + i) 0) (get_or s (low + i) 0) at → left s at n i ≡ x ∷ left s at n (i + 1)
    unfolding bytes_at field_at
    left_next i h f =
        let count : n - i ≡ suc (n - (i + 1)) = omega arith in
        let offset : at + i * 8 + 8 ≡ at + (i + 1) * 8 = omega arith in
        rw (f ∙ byte_across s at i low bytes e (omega arith), count, bytes_suc, drop-drop 8 (at + i * 8) (bits_of s), offset)

pub english_none : (g : Bool) → (g && english []) ≡ g
unfolding english
english_none g = and-true g

pub english_next : (g : Bool) (x : ℕ) (t : List ℕ) → (g && english (x ∷ t)) ≡ (g && plain x && english t)
unfolding english
english_next g x t = sym (and_assoc g (plain x) (english t))

pub chinese_none : chinese [] ≡ true
unfolding chinese
chinese_none = refl

pub chinese_plain : (x : ℕ) (t : List ℕ) → plain x ≡ true → chinese (x ∷ t) ≡ chinese t
unfolding chinese
chinese_plain x [] p = p
chinese_plain x (y ∷ t) p = rw p

pub chinese_half : (x : ℕ) → plain x ≡ false → chinese (x ∷ []) ≡ false
unfolding chinese
chinese_half x p = p

pub chinese_pair : (x y : ℕ) (t : List ℕ) → plain x ≡ false → chinese (x ∷ y ∷ t) ≡ (level_one x y && chinese t)
unfolding chinese
chinese_pair x y t p = rw p
