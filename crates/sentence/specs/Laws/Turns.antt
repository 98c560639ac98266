-- One turn of each loop: what is left to do from offset i is one thing done, and what is left from i + 1. Assumes nothing.
use Rattle.std.specs.Prelude.{◌&&◌, List, [], ◌∷◌, ◌++◌, ◌≡◌, refl, ℕ, zero, suc, ◌+◌, ◌*◌, ◌-◌, ◌/◌, ◌%◌, ◌^◌, ◌≤◌, ◌<◌, ltb, length, take, drop, get_or, set, replicate}
use Rattle.std.proofs.Common.{append_assoc, append-nil, sym, ap, ◌∙◌, add-one, arith, drop-cons, drop_at, take-suc-set, length-take-le, take_all}
use Rattle.std.proofs.lemmas.List.{take-set-le, set_split}
use Rattle.std.proofs.Math.Seq.{append_snoc}
use Rattle.sentence.specs.Spelling.{all_digits, digit_value, decimal, spelt, unhexed, lower, hex_of}
use Rattle.sentence.specs.Laws.Digits.{decimal_next, tenth_small}

pub all_turn : (base : ℕ) (s : List ℕ) (i : ℕ) → i < length s
    → all_digits base (drop i s) ≡ ltb (digit_value (get_or s i 0)) base && all_digits base (drop (i + 1) s)
unfolding all_digits
all_turn base s i h = rw (add-one i, drop-cons s i 0 h)

pub spelt_turn : (n : ℕ) (s : List ℕ) (i : ℕ) → i < length s → spelt n (drop i s) ≡ spelt (n * 10 + digit_value (get_or s i 0)) (drop (i + 1) s)
unfolding spelt
spelt_turn n s i h = rw (add-one i, drop-cons s i 0 h)

pub hex_turn : (s : List ℕ) (i : ℕ) → i < length s → hex_of (drop i s) ≡ lower (get_or s i 0 / 16) ∷ lower (get_or s i 0 % 16) ∷ hex_of (drop (i + 1) s)
unfolding hex_of
hex_turn s i h = rw (add-one i, drop-cons s i 0 h)

pub unhexed_turn : (s : List ℕ) (i : ℕ) → 2 * i + 1 < length s
    → unhexed (drop (2 * i) s) ≡ (digit_value (get_or s (2 * i) 0) % 16 * 16 + digit_value (get_or s (2 * i + 1) 0) % 16) ∷ unhexed (drop (2 * (i + 1)) s)
unfolding unhexed
unhexed_turn s i h =
    let e : 2 * (i + 1) ≡ suc (suc (2 * i)) = omega arith in
    rw (e, add-one (2 * i), drop-cons s (2 * i) 0 (omega arith), drop-cons s (suc (2 * i)) 0 (omega arith))

-- what is done stands in front of what is left: one more is stored
pub store_turn : (done : List ℕ) (i v : ℕ) (left all : List ℕ) → i < length done → take i done ++ (v ∷ left) ≡ all
    → take (i + 1) (set done i v) ++ left ≡ all
store_turn done i v left all h e = rw (add-one i, take-suc-set done i v h, append_assoc) e

pub store_end : (done : List ℕ) (i : ℕ) (left all : List ℕ) → length done ≤ i → left ≡ [] → take i done ++ left ≡ all → done ≡ all
store_end done i left all h q e = sym (rw (take_all i done h, q, append-nil) refl) ∙ e

-- decimal digits go last to first, into the chars before those that stand
pub offset_left : (from rest : ℕ) → 0 < rest → rest < 10 ^ from → 0 < from
offset_left zero rest s h = absurd (omega arith)
offset_left (suc k) rest s h = omega arith

pub decimal_turn : (from rest : ℕ) (chars all : List ℕ) → 0 < rest → rest < 10 ^ from → from ≤ length chars → decimal from rest ++ drop from chars ≡ all
    → (rest / 10 < 10 ^ (from - 1)) × (decimal (from - 1) (rest / 10) ++ drop (from - 1) (set chars (from - 1) (lower (rest % 10))) ≡ all)
decimal_turn zero rest chars all some small h e = absurd (omega arith)
decimal_turn (suc j) rest chars all some small h e =
    let v = lower (rest % 10) in
    let q : suc j - 1 ≡ j = omega arith in (
      rw q (tenth_small j rest small),
      rw (q, set_split chars j v (omega arith), drop_at (take j chars) (v ∷ drop (suc j) chars) j (length-take-le j chars (omega arith)))
          (sym (append_snoc (decimal j (rest / 10)) v (drop (suc j) chars)) ∙ ap (λ x. x ++ drop (suc j) chars) (sym (decimal_next j rest some)) ∙ e),
    )

-- the chars before them stay 0
shorter : (j : ℕ) (l : List ℕ) → take (suc j) l ≡ replicate (suc j) 0 → take j l ≡ replicate j 0
shorter zero l e = refl
shorter (suc j) [] e = let z : ◌≡◌ {A = ℕ} 0 1 = cc in absurd (omega arith)
shorter (suc j) (x ∷ l) e =
    let h : x ≡ 0 = cc in
    let t : take (suc j) l ≡ replicate (suc j) 0 = cc in
    let r = shorter j l t in
    cc

pub blank_turn : (from : ℕ) (chars : List ℕ) (v : ℕ) → take from chars ≡ replicate from 0 → take (from - 1) (set chars (from - 1) v) ≡ replicate (from - 1) 0
blank_turn zero chars v e = refl
blank_turn (suc j) chars v e =
    let q : suc j - 1 ≡ j = omega arith in
    rw (q, take-set-le j chars j v (omega arith)) (shorter j chars e)
