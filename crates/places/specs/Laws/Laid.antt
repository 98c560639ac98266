-- Bytes laid into the store: they stand there, nothing else changes, and no two cells overlap. Assumes nothing.
use Rattle.std.specs.Prelude.{◌≡◌, refl, Bool, true, false, List, ◌++◌, ◌⊎◌, ℕ, ◌+◌, ◌-◌, ◌≤◌, ◌<◌, ltb, length, take, drop}
use Rattle.std.proofs.Common.{sym, ap, ◌∙◌, append_assoc, inl, inr, arith, length-append, length-drop, take-append-drop, length-take-le, drop_at, drop-drop, le-leb, ltb-true, ltb-false}
use Rattle.std.proofs.lemmas.List.{take-append-le, drop-append-le}
use Rattle.std.proofs.Math.Seq.{take-append_seam}
use Rattle.packet.specs.Packet.{most_packets, part_bytes_of}
use Rattle.places.specs.Desk.{cell, laid, laid_within}

module _ (s : List ℕ) (at : ℕ) (c : List ℕ) (fits : at + length c ≤ length s) where
  in_front : length (take at s) ≡ at
  in_front = length-take-le at s (omega arith)

  pub laid_within_lem : laid_within s at c ≡ laid s at c
  laid_within_lem = rw (le-leb (at + length c) (length s) fits) refl

  pub length_laid : length (laid s at c) ≡ length s
  length_laid =
      length-append (take at s) (c ++ drop (at + length c) s)
      ∙ omega (arith, in_front, length-append c (drop (at + length c) s), length-drop (at + length c) s)

  pub laid_there : take (length c) (drop at (laid s at c)) ≡ c
  laid_there = ap (take (length c)) (drop_at (take at s) (c ++ drop (at + length c) s) at in_front) ∙ take-append_seam c (drop (at + length c) s)

  -- before them
  kept : (b n : ℕ) → b + n ≤ at → (r : List ℕ) → take n (drop b (take at s ++ r)) ≡ take n (drop b (take at s))
  kept b n l r =
      ap (take n) (drop-append-le b (take at s) r (omega (arith, in_front)))
      ∙ take-append-le n (drop b (take at s)) r (omega (arith, in_front, length-drop b (take at s)))

  before : (b n : ℕ) → b + n ≤ at → take n (drop b (laid s at c)) ≡ take n (drop b s)
  before b n l = kept b n l (c ++ drop (at + length c) s) ∙ sym (kept b n l (drop at s)) ∙ ap (λ t. take n (drop b t)) (take-append-drop at s)

  -- behind them
  behind : (b : ℕ) → at + length c ≤ b → drop b (laid s at c) ≡ drop b s
  behind b l =
      let e = at + length c in
      let again : drop e (laid s at c) ≡ drop e s = ap (drop e) (sym (append_assoc (take at s) c (drop e s))) ∙ drop_at (take at s ++ c) (drop e s) e (length-append (take at s) c ∙ ap (◌+ length c) in_front) in
      let far : b ≡ e + (b - e) = omega arith in
      rw far (sym (drop-drop (b - e) e (laid s at c)) ∙ ap (drop (b - e)) again ∙ drop-drop (b - e) e s)

  pub laid_elsewhere : (b n : ℕ) → (b + n ≤ at) ⊎ (at + length c ≤ b) → take n (drop b (laid s at c)) ≡ take n (drop b s)
  laid_elsewhere b n (inl l) = before b n l
  laid_elsewhere b n (inr l) = ap (take n) (behind b l)

-- two cells, of other places or other numbers
cells_apart : (i j k l : ℕ) → k < most_packets → l < most_packets → (i ≡ j → k ≡ l → ⊥) → (cell j l + part_bytes_of ≤ cell i k) ⊎ (cell i k + part_bytes_of ≤ cell j l)
cells_apart i j k l a b d = go (ltb i j) (ltb j i) (ltb k l) refl refl refl
  where
    go : (x y z : Bool) → ltb i j ≡ x → ltb j i ≡ y → ltb k l ≡ z → (cell j l + part_bytes_of ≤ cell i k) ⊎ (cell i k + part_bytes_of ≤ cell j l)
    go true y z ex ey ez = let p = ltb-true i j ex in inr (omega arith)
    go false true z ex ey ez = let p = ltb-true j i ey in inl (omega arith)
    go false false true ex ey ez = let p = ltb-false i j ex in let q = ltb-false j i ey in let r = ltb-true k l ez in inr (omega arith)
    go false false false ex ey ez =
        let p = ltb-false i j ex in
        let q = ltb-false j i ey in
        let r = ltb-false k l ez in
        let e : i ≡ j = omega arith in
        let n : k ≡ l → ⊥ = d e in
        inl (omega arith)

-- A packet that is laid into its cell leaves what stands in any other.
pub other_cell : (s : List ℕ) (i k : ℕ) (c : List ℕ) → cell i k + length c ≤ length s → k < most_packets → length c ≤ part_bytes_of → (j l n : ℕ) → l < most_packets → n ≤ part_bytes_of → (i ≡ j → k ≡ l → ⊥)
    → take n (drop (cell j l) (laid s (cell i k) c)) ≡ take n (drop (cell j l) s)
other_cell s i k c fits a few j l n b m d = laid_elsewhere s (cell i k) c fits (cell j l) n (go (cells_apart i j k l a b d))
  where
    go : (cell j l + part_bytes_of ≤ cell i k) ⊎ (cell i k + part_bytes_of ≤ cell j l) → (cell j l + n ≤ cell i k) ⊎ (cell i k + length c ≤ cell j l)
    go (inl h) = inl (omega arith)
    go (inr h) = inr (omega arith)
