-- A field put in a message's body leaves the rest, and a seal made anew closes the body: what a correction does to a sealed message. Assumes nothing.
use Rattle.std.specs.Prelude.{◌≡◌, refl, Bool, true, false, cond, List, [], ◌∷◌, ◌++◌, ℕ, zero, suc, ◌+◌, ◌-◌, ◌*◌, ◌≤◌, ◌<◌, eqb, length, take, drop, get_or, set}
use Rattle.std.proofs.Common.{sym, ap, ◌∙◌, append_assoc, append-nil, arith, length-append, take-append-drop, drop_of_length-le, take_at, length-take-le, ne_eqb, lt-ltb, le-ltb}
use Rattle.std.proofs.lemmas.List.{take-append-le, drop-append-le, set_split}
use Rattle.bits.specs.Bits.{Bytes, bits_of, splice, put_at}
use Rattle.bits.specs.Laws.Bytes.{length_bits, bits_append, bits_same, bytes_append, bytes_drop}
use Rattle.bits.specs.Laws.Fields.{length_put, bytes_put, bits_put}
use Rattle.bits.specs.Xor.{xor_of}
use Rattle.format.specs.Fmt.{Fault, good, bad, or_bad}
use Rattle.format.specs.Message.{body, sealed, seal_fault, first_of}
use Rattle.format.specs.Sealing.{resealed, stamped, reclosed}

-- a change within the first of two lists
splice_first : (xs ys : List Bool) (at w v : ℕ) → at + w ≤ length xs → splice at w v (xs ++ ys) ≡ splice at w v xs ++ ys
splice_first xs ys at w v h =
    rw (take-append-le at xs ys (omega arith), drop-append-le (at + w) xs ys (omega arith)) (simp append_assoc)

-- a field put in the first of two parts of a message
pub put_append : (s t : List ℕ) (at w v : ℕ) → Bytes t → at + w ≤ length s * 8 → put_at (s ++ t) at w v ≡ put_at s at w v ++ t
put_append s t at w v fine h =
    let n : length (put_at (s ++ t) at w v) ≡ length (put_at s at w v ++ t) = length_put (s ++ t) at w v ∙ length-append s t ∙ ap (◌+ length t) (sym (length_put s at w v)) ∙ sym (length-append (put_at s at w v) t) in
    let l : at + w ≤ length (bits_of s) = omega (arith, length_bits s) in
    let e : bits_of (put_at (s ++ t) at w v) ≡ bits_of (put_at s at w v ++ t) =
    bits_put (s ++ t) at w (omega (arith, length-append s t)) v
    ∙ ap (splice at w v) (bits_append s t)
    ∙ splice_first (bits_of s) (bits_of t) at w v l
    ∙ ap (◌++ bits_of t) (sym (bits_put s at w h v))
    ∙ sym (bits_append (put_at s at w v) t) in
    bits_same (put_at (s ++ t) at w v) (put_at s at w v ++ t) (bytes_put (s ++ t) at w v) (bytes_append (put_at s at w v) t (bytes_put s at w v) fine) n e

pub length_body : (z : Bool) (s : List ℕ) → length (body z s) ≤ length s
length_body false s = omega arith
length_body true s = omega (arith, length-take-le (length s - 1) s (omega arith))

-- a field put in the message is put in its body
pub body_put : (z : Bool) (s : List ℕ) (at w v : ℕ) → Bytes s → at + w ≤ length (body z s) * 8 → body z (put_at s at w v) ≡ put_at (body z s) at w v
body_put false s at w v fine h = refl
body_put true s at w v fine h =
    let n = length s - 1 in
    let l : length (take n s) ≡ n = length-take-le n s (omega arith) in
    let e : put_at s at w v ≡ put_at (take n s) at w v ++ drop n s =
    ap (λ t. put_at t at w v) (sym (take-append-drop n s)) ∙ put_append (take n s) (drop n s) at w v (bytes_drop n s fine) h in
    rw (length_put s at w v, e) (take_at (put_at (take n s) at w v) (drop n s) n (length_put (take n s) at w v ∙ l))

-- a seal made anew closes the body
pub reclosed_body : (z : Bool) (s : List ℕ) → (z ≡ true → 0 < length s) → reclosed z s ≡ sealed z (body z s)
unfolding resealed
reclosed_body false s h = refl
reclosed_body true s h = let l = h refl in rw (ne_eqb (length s) 0 (λ e. omega arith)) refl

-- byte n made the sum of all before it
pub set_stamp : (s : List ℕ) (n x : ℕ) → n < length s → x ≡ xor_of (take n s) → set s n x ≡ stamped n s
unfolding stamped
set_stamp s n x l e = rw (lt-ltb n (length s) l, set_split s n x l, e) (simp append_assoc)

pub stamp_past : (s : List ℕ) (n : ℕ) → length s ≤ n → s ≡ stamped n s
unfolding stamped
stamp_past s n l = rw (le-ltb n (length s) l) refl

-- the last byte is the seal
pub stamp_last : (s : List ℕ) → stamped (length s - 1) s ≡ resealed s
unfolding stamped resealed
stamp_last [] = refl
stamp_last (x ∷ s) =
    let o : drop (suc (length (x ∷ s) - 1)) (x ∷ s) ≡ [] = drop_of_length-le (x ∷ s) {i = suc (length (x ∷ s) - 1)} (omega arith) in
    rw (ne_eqb (length (x ∷ s)) 0 (λ z. omega arith), lt-ltb (length (x ∷ s) - 1) (length (x ∷ s)) (omega arith), o) (append-nil _)

-- a refusal of the first tests comes before the seal
pub first_past : (x : Fault) (c : ℕ) → (c ≡ 0 → ⊥) → c ≡ first_of x c
first_past good c h = refl
first_past (bad d i) zero h = absurd (h refl)
first_past (bad d i) (suc c) h = refl

-- what the seal's test answers: of no bytes nothing is wrong
pub stamp_none : (s : List ℕ) (c : ℕ) → c ≡ 0 → length s ≡ 0 → 0 ≡ first_of (seal_fault true s) c
unfolding xor_of
stamp_none [] c z e = rw z refl
stamp_none (x ∷ s) c z e = absurd (omega arith)

pub stamp_is : (s : List ℕ) (c sum : ℕ) → c ≡ 0 → sum ≡ xor_of (take (length s - 1) s) → first_of (seal_fault true s) c ≡ cond (eqb (get_or s (length s - 1) 0) sum) 0 3
stamp_is s c sum z e = rw (z, e) (go (eqb (get_or s (length s - 1) 0) (xor_of (take (length s - 1) s))))
  where
    go : (t : Bool) → first_of (or_bad t 3) 0 ≡ cond t 0 3
    go true = refl
    go false = refl
