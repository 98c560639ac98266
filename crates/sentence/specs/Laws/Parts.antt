-- The sentence around a report is accepted just where it is the sentence of a good address and 17 bytes: cut by its size, each part is what
-- the pattern lays there. Assumes nothing.
use Rattle.std.specs.Prelude.{List, [], ◌∷◌, ◌++◌, ◌≡◌, refl, ℕ, ◌+◌, ◌-◌, ◌^◌, ◌≤◌, ◌<◌, length, take, drop}
use Rattle.std.proofs.Common.{append_assoc, sym, ap, ◌∙◌, arith, length-drop, take_at, drop_at, length-take-le}
use Rattle.std.proofs.Math.ListN.{length-append}
use Rattle.bits.specs.Bits.{Bytes}
use Rattle.bits.specs.Xor.{xor_of}
use Rattle.format.specs.Fmt.{accepted}
use Rattle.sentence.specs.Spelling.{all_digits, decimal, spelt, hex_of, unhexed, closing_of}
use Rattle.sentence.specs.Pattern.{start_mark, inner_mark, opening, summed_up, sentence, same_bytes, part, address_part, inner_part, hex_part, summed, last_five, address_like, around_so}
use Rattle.sentence.specs.Laws.Digits.{spelt_decimal, decimal_length, decimal_most, decimal_head, decimal_digits}
use Rattle.sentence.specs.Laws.Hex.{hex_length, hex_digits, unhexed_hex}
use Rattle.sentence.specs.Laws.Tests.{same_refl, Led, leads, around_like, Addressed, addresses, pattern_is}

-- ---- cutting

part_at : (p m q : List ℕ) (from to : ℕ) → length p ≡ from → from + length m ≡ to → part from to (p ++ (m ++ q)) ≡ m
part_at p m q from to e f = ap (take (to - from)) (drop_at p (m ++ q) from e) ∙ take_at m q (to - from) (omega arith)

-- all but the first of a front
pub part_tail : (o q : List ℕ) (n : ℕ) → length o ≡ n → part 1 n (o ++ q) ≡ drop 1 o
part_tail [] q n e = let z : n - 1 ≡ 0 = omega arith in ap (λ k. take k (drop 1 q)) z
part_tail (c ∷ o) q n e = take_at o q (n - 1) (omega arith)

pub length_part : (from to : ℕ) (s : List ℕ) → from ≤ to → to ≤ length s → length (part from to s) ≡ to - from
length_part from to s h k = length-take-le (to - from) (drop from s) (simp length-drop (omega arith))

-- a, b, c and d with e after them: where b, c and d stand
module _ (a b c d e : List ℕ) where
  pub five : (a ++ (b ++ (c ++ d))) ++ e ≡ a ++ (b ++ (c ++ (d ++ e)))
  five = simp append_assoc

  second : (i j : ℕ) → length a ≡ i → i + length b ≡ j → part i j ((a ++ (b ++ (c ++ d))) ++ e) ≡ b
  second i j x y = ap (part i j) five ∙ part_at a b (c ++ (d ++ e)) i j x y

  third : (i j : ℕ) → length a + length b ≡ i → i + length c ≡ j → part i j ((a ++ (b ++ (c ++ d))) ++ e) ≡ c
  third i j x y =
      let g : (a ++ (b ++ (c ++ d))) ++ e ≡ (a ++ b) ++ (c ++ (d ++ e)) = simp append_assoc in
      ap (part i j) g ∙ part_at (a ++ b) c (d ++ e) i j (length-append a b ∙ x) y

  fourth : (i j : ℕ) → length a + (length b + length c) ≡ i → i + length d ≡ j → part i j ((a ++ (b ++ (c ++ d))) ++ e) ≡ d
  fourth i j x y =
      let g : (a ++ (b ++ (c ++ d))) ++ e ≡ (a ++ (b ++ c)) ++ (d ++ e) = simp append_assoc in
      let l : length (a ++ (b ++ c)) ≡ i = length-append a (b ++ c) ∙ ap (λ n. length a + n) (length-append b c) ∙ x in
      ap (part i j) g ∙ part_at (a ++ (b ++ c)) d e i j l y

four_long : (a b c d : List ℕ) → length (a ++ (b ++ (c ++ d))) ≡ length a + (length b + (length c + length d))
four_long a b c d = simp length-append

-- ---- what is accepted is a sentence

pub record Sentenced (s : List ℕ) (a : ℕ) (bs : List ℕ) : Type 0 where
  pub least : 1 ≤ a
  pub most : a ≤ 2_097_151
  pub long : length bs ≡ 17
  pub fine : Bytes bs
  pub is : s ≡ sentence a bs

-- ---- a sentence is accepted

pub decimal_long : (a : ℕ) → 1 ≤ a → a ≤ 2_097_151 → (1 ≤ length (decimal 7 a)) × (length (decimal 7 a) ≤ 7)
decimal_long a l m = (decimal_length 7 a l (omega arith), decimal_most 7 a)

module _ (s : List ℕ) (a : ℕ) (bs : List ℕ) (first : Led s) (x : inner_part s ≡ inner_mark) (y : hex_part s ≡ hex_of bs) (z : address_part s ≡ decimal 7 a) where
  parts_accepted : 1 ≤ a → a ≤ 2_097_151 → Bytes bs → around_so s ≡ accepted (a, bs)
  parts_accepted l m fine =
      let small : a < 10 ^ 7 = omega arith in
      let v = spelt_decimal 7 a small in
      let good : Addressed (decimal 7 a) = record {
        figures = decimal_digits 7 a;
        leading = decimal_head 7 a l small;
        least = rw v l;
        most = rw v m;
      } in
      let e = around_like s (leads s first) (pattern_is s (ap (λ t. same_bytes t inner_mark) x ∙ same_refl inner_mark) (ap (all_digits 16) y ∙ hex_digits bs fine) (ap address_like z ∙ addresses (decimal 7 a) good)) in
      let p : spelt 0 (address_part s) ≡ a = ap (spelt 0) z ∙ v in
      let q : unhexed (hex_part s) ≡ bs = ap unhexed y ∙ unhexed_hex bs fine in
      e ∙ λ i. accepted (p i, q i)

module _ (ds bs : List ℕ) (n : length bs ≡ 17) where
  pub opening_long : length (opening ds bs) ≡ 48 + length ds
  unfolding opening
  opening_long = four_long start_mark ds inner_mark (hex_of bs) ∙ omega (arith, hex_length bs)

  pub summed_long : length (summed_up (opening ds bs)) ≡ 53 + length ds
  unfolding summed_up closing_of
  summed_long = length-append (opening ds bs) (closing_of (xor_of (drop 1 (opening ds bs)))) ∙ omega (arith, opening_long)

pub sentence_accepted : (a : ℕ) (bs : List ℕ) → 1 ≤ a → a ≤ 2_097_151 → length bs ≡ 17 → Bytes bs → around_so (sentence a bs) ≡ accepted (a, bs)
unfolding sentence summed_up opening
sentence_accepted a bs l m n fine =
    let d = decimal 7 a in
    let h = hex_of bs in
    let o = opening d bs in
    let e = closing_of (xor_of (drop 1 o)) in
    let s = sentence a bs in
    let k = decimal_long a l m in
    let c : length h ≡ 34 = omega (arith, hex_length bs) in
    let v : length s ≡ 53 + length d = summed_long d bs n in
    let w = opening_long d bs n in
    let ends : last_five s ≡ e = drop_at o e (length s - 5) (omega arith) in
    let sum : summed s ≡ drop 1 o = part_tail o e (length s - 5) (omega arith) in
    let first : Led s = record {
      least = omega arith;
      most = omega arith;
      starts = refl;
      ends = ends ∙ ap (λ t. closing_of (xor_of t)) (sym sum);
    } in
    parts_accepted s a bs first
    (third start_mark d inner_mark h e (length s - 46) (length s - 39) (omega arith) (omega arith))
    (fourth start_mark d inner_mark h e (length s - 39) (length s - 5) (omega arith) (omega arith))
    (second start_mark d inner_mark h e 7 (length s - 46) refl (omega arith))
    l m fine
