-- Fields read and put, at every offset and width: the message as the bits before, of and after the field. Assumes nothing.
use Rattle.std.specs.Prelude.{Bool, ◌≡◌, ℕ, suc, ◌+◌, ◌*◌, ◌-◌, ◌^◌, ◌≤◌, ◌<◌, length, take, get_or}
use mathlib.Core.List.{List, ◌∷◌, ◌++◌, append_assoc}
use Rattle.std.proofs.Math.Path.{sym, ap}
use Rattle.std.proofs.Common.{◌∙◌, add-sub_of_le, arith, length-append, length-take, length-take-le}
use Rattle.std.proofs.Math.ListN.{drop, length-drop, take-append-drop}
use Rattle.std.proofs.Math.Seq.{take_at, drop_at, drop-drop, take-add, split_at}
use Rattle.std.proofs.lemmas.List.{take-append-le, drop-append-le}
use Rattle.bits.specs.Bits.{Bytes, value_of, digits, bits_of, bytes_of, field_at, put_at}
use Rattle.bits.specs.Laws.Digits.{bits_cons, length_digits, value_append, value_take_lt, value_digits, digits_value}
use Rattle.bits.specs.Laws.Bytes.{length_bits, bits_append, length_bytes, bytes_below, bits_bytes, bytes_bits}

-- where the bits of s are p, then m, then q, the field at m is m's number, and a put there replaces m
module _ (s : List ℕ) (at w : ℕ) (p m q : List Bool) (e : bits_of s ≡ p ++ (m ++ q)) (hp : length p ≡ at) (hm : length m ≡ w) where
  pub field_split : field_at s at w ≡ value_of m
  unfolding field_at
  field_split = rw (e, drop_at p (m ++ q) at hp, take_at m q w hm)

  pub put_split : (v : ℕ) → put_at s at w v ≡ bytes_of (length s) (p ++ (digits w v ++ q))
  unfolding put_at
  put_split v = rw (e, take_at p (m ++ q) at hp, ← drop-drop w at (p ++ (m ++ q)), drop_at p (m ++ q) at hp, drop_at m q w hm)

pub field_lt : (s : List ℕ) (at w : ℕ) → field_at s at w < 2 ^ w
unfolding field_at
field_lt s at w = value_take_lt w (drop at (bits_of s))

module _ (s : List ℕ) (at w v : ℕ) where
  pub length_put : length (put_at s at w v) ≡ length s
  unfolding put_at
  length_put = length_bytes (length s) _

  pub bytes_put : Bytes (put_at s at w v)
  unfolding put_at
  bytes_put = bytes_below (length s) _

-- a part that ends within the first of two lists
part_first : (xs ys : List Bool) (at w : ℕ) → at + w ≤ length xs → take w (drop at (xs ++ ys)) ≡ take w (drop at xs)
part_first xs ys at w h =
    rw (drop-append-le at xs ys (omega arith), take-append-le w (drop at xs) ys (simp length-drop (omega arith)))

-- a part that starts past the offset n is a part of what follows n
part_past : (n at w : ℕ) (l : List Bool) → n ≤ at → take w (drop at l) ≡ take w (drop (at - n) (drop n l))
part_past n at w l h = rw (drop-drop (at - n) n l, add-sub_of_le h)

-- a field that lies within the message
module _ (s : List ℕ) (at w : ℕ) (fits : at + w ≤ length s * 8) where
  pub length_before : length (take at (bits_of s)) ≡ at
  length_before = length-take-le at (bits_of s) (omega (arith, length_bits s))

  -- the field's bits are replaced, and no other
  pub bits_put : (v : ℕ) → bits_of (put_at s at w v) ≡ take at (bits_of s) ++ (digits w v ++ drop (at + w) (bits_of s))
  unfolding put_at
  bits_put v =
      bits_bytes (length s) (take at (bits_of s) ++ (digits w v ++ drop (at + w) (bits_of s)))
      (simp (length-append, length_before, length_digits, length-drop, length_bits) (omega arith))

  -- what was put in is read
  pub field_put : (v : ℕ) → v < 2 ^ w → field_at (put_at s at w v) at w ≡ v
  field_put v h =
      field_split (put_at s at w v) at w (take at (bits_of s)) (digits w v) (drop (at + w) (bits_of s)) (bits_put v) length_before (length_digits w v)
      ∙ value_digits w h

  -- and no field before or behind it differs
  pub field_put_before : (v at' w' : ℕ) → at' + w' ≤ at → field_at (put_at s at w v) at' w' ≡ field_at s at' w'
  unfolding field_at
  field_put_before v at' w' h =
      ap value_of
      (rw (bits_put v, part_first (take at (bits_of s)) (digits w v ++ drop (at + w) (bits_of s)) at' w' (omega (arith, length_before)))
      (sym (part_first (take at (bits_of s)) (drop at (bits_of s)) at' w' (omega (arith, length_before)))
      ∙ rw (take-append-drop at (bits_of s))))

  pub field_put_after : (v at' w' : ℕ) → at + w ≤ at' → field_at (put_at s at w v) at' w' ≡ field_at s at' w'
  unfolding field_at
  field_put_after v at' w' h =
      ap value_of
      (rw (
        part_past (at + w) at' w' (bits_of (put_at s at w v)) h,
        part_past (at + w) at' w' (bits_of s) h,
        bits_put v,
        ← drop-drop w at (take at (bits_of s) ++ (digits w v ++ drop (at + w) (bits_of s))),
        drop_at (take at (bits_of s)) (digits w v ++ drop (at + w) (bits_of s)) at length_before,
        drop_at (digits w v) (drop (at + w) (bits_of s)) w (length_digits w v),
      ))

  -- the field's bits are those of its value
  pub field_bits : take w (drop at (bits_of s)) ≡ digits w (field_at s at w)
  unfolding field_at
  field_bits = sym (digits_value w (take w (drop at (bits_of s))) (simp (length-take, length-drop, length_bits) (omega arith)))

  pub put_put : (u v : ℕ) → put_at (put_at s at w u) at w v ≡ put_at s at w v
  unfolding put_at
  put_put u v =
      put_split (put_at s at w u) at w (take at (bits_of s)) (digits w u) (drop (at + w) (bits_of s)) (bits_put u) length_before (length_digits w u) v
      ∙ rw (length_put s at w u)

  pub put_field : Bytes s → put_at s at w (field_at s at w) ≡ s
  unfolding put_at
  put_field h =
      rw (
        ← field_bits,
        ← append_assoc (take at (bits_of s)) (take w (drop at (bits_of s))) (drop (at + w) (bits_of s)),
        ← take-add at w (bits_of s),
        take-append-drop (at + w) (bits_of s),
      ) (bytes_bits s h)

-- two fields side by side are one
pub field_join : (s : List ℕ) (at a b : ℕ) → at + (a + b) ≤ length s * 8
    → field_at s at (a + b) ≡ field_at s at a * 2 ^ b + field_at s (at + a) b
unfolding field_at
field_join s at a b fits =
    rw (take-add a b (drop at (bits_of s)), drop-drop a at (bits_of s), value_append (take a (drop at (bits_of s))) (take b (drop (at + a) (bits_of s))))
    (rw (length-take-le b (drop (at + a) (bits_of s)) (simp (length-drop, length_bits) (omega arith))))

-- ---- whole bytes of a message

bits_cut : (n : ℕ) (s : List ℕ) → bits_of s ≡ bits_of (take n s) ++ bits_of (drop n s)
bits_cut n s = ap bits_of (sym (take-append-drop n s)) ∙ bits_append (take n s) (drop n s)

length_front : (n : ℕ) (s : List ℕ) → n ≤ length s → length (bits_of (take n s)) ≡ n * 8
length_front n s h = length_bits (take n s) ∙ rw (length-take-le n s h)

pub bits_take : (n : ℕ) (s : List ℕ) → n ≤ length s → bits_of (take n s) ≡ take (n * 8) (bits_of s)
bits_take n s h = sym (ap (take (n * 8)) (bits_cut n s) ∙ take_at (bits_of (take n s)) (bits_of (drop n s)) (n * 8) (length_front n s h))

pub bits_drop : (n : ℕ) (s : List ℕ) → n ≤ length s → bits_of (drop n s) ≡ drop (n * 8) (bits_of s)
bits_drop n s h = sym (ap (drop (n * 8)) (bits_cut n s) ∙ drop_at (bits_of (take n s)) (bits_of (drop n s)) (n * 8) (length_front n s h))

-- a whole byte
pub field_byte : (s : List ℕ) (i : ℕ) → Bytes s → i < length s → field_at s (i * 8) 8 ≡ get_or s i 0
field_byte s i bytes h =
    field_split s (i * 8) 8 (bits_of (take i s)) (digits 8 (get_or s i 0)) (bits_of (drop (suc i) s))
    (ap bits_of (split_at s i 0 h) ∙ bits_append (take i s) (get_or s i 0 ∷ drop (suc i) s) ∙ rw bits_cons)
    (length_front i s (omega arith))
    (length_digits 8 (get_or s i 0))
    ∙ value_digits 8 (bytes i)

-- a field of the first n bytes
pub field_front : (s : List ℕ) (n at w : ℕ) → n ≤ length s → at + w ≤ n * 8 → field_at (take n s) at w ≡ field_at s at w
unfolding field_at
field_front s n at w l h =
    let b = bits_of (take n s) in
    let k : length b ≡ n * 8 = length_bits (take n s) ∙ ap (◌* 8) (length-take-le n s l) in
    let whole : bits_of s ≡ b ++ bits_of (drop n s) = ap bits_of (sym (take-append-drop n s)) ∙ bits_append (take n s) (drop n s) in
    sym (ap (λ b. value_of (take w (drop at b))) whole
    ∙ ap (λ b. value_of (take w b)) (drop-append-le at b (bits_of (drop n s)) (omega (arith, k)))
    ∙ ap value_of (take-append-le w (drop at b) (bits_of (drop n s)) (omega (arith, k, length-drop at b))))
