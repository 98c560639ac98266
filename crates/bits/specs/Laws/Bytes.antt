-- Bytes and their bits determine each other, and go part by part: by induction on the bytes. Assumes nothing.
use Rattle.std.specs.Prelude.{Bool, List, [], ◌∷◌, ◌++◌, ◌≡◌, refl, ℕ, zero, suc, ◌+◌, ◌*◌, ◌-◌, ◌≤◌, length, take, drop}
use Rattle.std.proofs.Common.{append_assoc, sym, ap, ◌∙◌, zero-add, suc-add, arith, length-append, length-drop, take_at, drop_at, take_all, take-add, drop-drop, length-take-le, get_or-drop}
use Rattle.bits.specs.Bits.{Bytes, digits, bits_of, bytes_of}
use Rattle.bits.specs.Laws.Digits.{bits_nil, bytes_zero, bits_cons, bytes_suc, length_digits, value_take_lt, value_digits, digits_value}

pub length_bits : (s : List ℕ) → length (bits_of s) ≡ length s * 8
unfolding bits_of
length_bits [] = refl
length_bits (b ∷ s) = rw (length-append (digits 8 b) (bits_of s), length_digits, length_bits s) (omega arith)

pub bits_append : (s t : List ℕ) → bits_of (s ++ t) ≡ bits_of s ++ bits_of t
unfolding bits_of
bits_append [] t = refl
bits_append (b ∷ s) t = rw (bits_append s t) (sym (append_assoc (digits 8 b) (bits_of s) (bits_of t)))

pub length_bytes : (n : ℕ) (l : List Bool) → length (bytes_of n l) ≡ n
unfolding bytes_of
length_bytes zero l = refl
length_bytes (suc n) l = ap suc (length_bytes n (drop 8 l))

pub bytes_below : (n : ℕ) (l : List Bool) → Bytes (bytes_of n l)
unfolding bytes_of
bytes_below zero l i = omega arith
bytes_below (suc n) l zero = value_take_lt 8 l
bytes_below (suc n) l (suc i) = bytes_below n (drop 8 l) i

-- what is packed has the bits that it was packed from
pub bits_pack : (n : ℕ) (l : List Bool) → n * 8 ≤ length l → bits_of (bytes_of n l) ≡ take (n * 8) l
bits_pack zero l h = rw (bytes_zero, bits_nil)
bits_pack (suc n) l h =
    let e : suc n * 8 ≡ 8 + n * 8 = omega arith in
    rw (e, bytes_suc, bits_cons, digits_value 8 (take 8 l) (length-take-le 8 l (omega arith)), bits_pack n (drop 8 l) (simp length-drop (omega arith)))
    (sym (take-add 8 (n * 8) l))

pub bits_bytes : (n : ℕ) (l : List Bool) → length l ≡ n * 8 → bits_of (bytes_of n l) ≡ l
bits_bytes n l h = bits_pack n l (omega arith) ∙ take_all (n * 8) l (omega arith)

-- the bytes of one part, then those of the next
pub bytes_add : (n m : ℕ) (l : List Bool) → bytes_of (n + m) l ≡ bytes_of n l ++ bytes_of m (drop (n * 8) l)
bytes_add zero m l = rw (zero-add m, bytes_zero)
bytes_add (suc n) m l =
    let e : suc n * 8 ≡ 8 + n * 8 = omega arith in
    rw (e, suc-add n m, bytes_suc, bytes_suc, bytes_add n m (drop 8 l), drop-drop (n * 8) 8 l)

pub bytes_bits : (s : List ℕ) → Bytes s → bytes_of (length s) (bits_of s) ≡ s
bytes_bits [] h = bytes_zero (bits_of [])
bytes_bits (b ∷ s) h =
    rw (bits_cons, bytes_suc, take_at (digits 8 b) (bits_of s) 8 (length_digits 8 b), drop_at (digits 8 b) (bits_of s) 8 (length_digits 8 b), value_digits 8 (h 0), bytes_bits s (λ i. h (suc i)))

-- the first n bytes of their bits
pub bytes_front : (n : ℕ) (s : List ℕ) → Bytes s → n ≤ length s → bytes_of n (bits_of s) ≡ take n s
bytes_front n s h fits =
    let e : n + (length s - n) ≡ length s = omega arith in
    sym (take_at (bytes_of n (bits_of s)) (bytes_of (length s - n) (drop (n * 8) (bits_of s))) n (length_bytes n (bits_of s)))
    ∙ ap (take n) (sym (bytes_add n (length s - n) (bits_of s)) ∙ rw e (bytes_bits s h))

pub bytes_append : (s t : List ℕ) → Bytes s → Bytes t → Bytes (s ++ t)
bytes_append [] t hs ht i = ht i
bytes_append (b ∷ s) t hs ht zero = hs 0
bytes_append (b ∷ s) t hs ht (suc i) = bytes_append s t (λ j. hs (suc j)) ht i

pub bytes_take : (n : ℕ) (s : List ℕ) → Bytes s → Bytes (take n s)
bytes_take zero s h i = omega arith
bytes_take (suc n) [] h i = omega arith
bytes_take (suc n) (b ∷ s) h zero = h 0
bytes_take (suc n) (b ∷ s) h (suc i) = bytes_take n s (λ j. h (suc j)) i

pub bytes_drop : (n : ℕ) (s : List ℕ) → Bytes s → Bytes (drop n s)
bytes_drop n s h i = rw (get_or-drop n s i 0) (h (n + i))

-- bytes are told apart by their bits
pub bits_same : (s t : List ℕ) → Bytes s → Bytes t → length s ≡ length t → bits_of s ≡ bits_of t → s ≡ t
bits_same s t hs ht n e = sym (bytes_bits s hs) ∙ rw (n, e) (bytes_bits t ht)
