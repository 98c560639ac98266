-- The packets of a place, joined in front of a buffer: one packet more, and how many bytes they are. Assumes nothing.
use Rattle.std.specs.Prelude.{ℕ, zero, suc, ◌+◌, ◌*◌, ◌≤◌, ◌<◌, List, ◌++◌, ◌≡◌, refl, length, drop}
use Rattle.std.proofs.Common.{append_assoc, sym, ap, ap₂, ◌∙◌, arith, add-one, length-append, length-drop, length-take-le, take_at, drop-drop}
use Rattle.std.proofs.Math.Decide.{le_ind}
use Rattle.std.proofs.Math.Seq.{drop-append-add}
use Rattle.packet.specs.Packet.{most_packets, part_bytes_of}
use Rattle.places.specs.Desk.{store_bytes, cell, in_cell_of, laid, joined_below}
use Rattle.places.specs.Places.{held, four_places}
use Rattle.places.specs.Laws.Good.{Sized}
use Rattle.places.specs.declared.Place.{Place}

-- how many bytes of the packets below n are held
unfoldable pub held_below : ℕ → Place → ℕ
held_below zero p = 0
held_below (suc n) p = held_below n p + held p n

pub held_more : (n : ℕ) (p : Place) → held_below (n + 1) p ≡ held_below n p + held p n
unfolding held_below
held_more n p = ap (λ m. held_below m p) (add-one n)

held_within : (m n : ℕ) (p : Place) → m ≤ n → held_below m p ≤ held_below n p
held_within m n p h =
    le_ind {n = m} (λ k. held_below m p ≤ held_below k p) (omega arith) (λ k _ l. omega (arith, l, held_more k p, ap (λ m. held_below m p) (add-one k))) n h

-- each packet has its own room
pub held_room : (k n : ℕ) (p : Place) → k < n → held_below k p + held p k ≤ held_below n p
held_room k n p h = omega (arith, held_within (k + 1) n p (omega arith), held_more k p)

pub held_most : {p : Place} → Sized p → (n : ℕ) → n ≤ most_packets → held_below n p ≤ n * part_bytes_of
unfolding held_below
held_most z zero h = omega arith
held_most z (suc n) h = omega (arith, held_most z n (omega arith), z.small n (omega arith))

-- packet number k of place i lies within the store
pub cell_within : (i k n : ℕ) (s : List ℕ) → i < four_places → k < most_packets → n ≤ part_bytes_of → store_bytes ≤ length s → cell i k + n ≤ length s
cell_within i k n s hi hk hn hs = omega arith

pub in_cell_length : {p : Place} → Sized p → (i k : ℕ) (s : List ℕ) → i < four_places → k < most_packets → store_bytes ≤ length s → length (in_cell_of s i p k) ≡ held p k
in_cell_length {p} z i k s hi hk hs =
    length-take-le (held p k) (drop (cell i k) s) (omega (arith, length-drop (cell i k) s, cell_within i k (held p k) s hi hk (z.small k hk) hs))

pub joined_more : (n : ℕ) (s : List ℕ) (i : ℕ) (p : Place) → joined_below (n + 1) s i p ≡ joined_below n s i p ++ in_cell_of s i p n
unfolding joined_below
joined_more n s i p = ap (λ m. joined_below m s i p) (add-one n)

pub joined_length : {p : Place} → Sized p → (i : ℕ) (s : List ℕ) → i < four_places → store_bytes ≤ length s → (n : ℕ) → n ≤ most_packets → length (joined_below n s i p) ≡ held_below n p
unfolding joined_below held_below
joined_length z i s hi hs zero h = refl
joined_length {p} z i s hi hs (suc n) h =
    length-append (joined_below n s i p) (in_cell_of s i p n) ∙ ap₂ (◌+◌) (joined_length z i s hi hs n (omega arith)) (in_cell_length z i n s hi (omega arith) hs)

-- a buffer with x in front takes c behind it
pub front_laid : (x b c : List ℕ) → laid (x ++ drop (length x) b) (length x) c ≡ (x ++ c) ++ drop (length (x ++ c)) b
front_laid x b c =
    let rest : drop (length x + length c) (x ++ drop (length x) b) ≡ drop (length (x ++ c)) b =
    drop-append-add x (drop (length x) b) (length c) ∙ drop-drop (length c) (length x) b ∙ ap (λ n. drop n b) (sym (length-append x c)) in
    ap₂ (◌++◌) (take_at x (drop (length x) b) (length x) refl) (ap (c ++◌) rest) ∙ sym (append_assoc x c (drop (length (x ++ c)) b))
