-- The heights that a row of numbers tells are those that stand in the bits, by the laws on counted groups; how many they are; the ways in which the call answers; and they fit 32 signed bits. Assumes nothing.
use Prim.Native.Nat.{ℕ, zero, suc, ◌+◌, ◌*◌, ◌≤◌, ◌<◌, ◌^◌}
use Rattle.std.specs.Prelude.{◌≡◌, refl, Bool, true, false, List, [], ◌∷◌, ◌++◌, eqb, ℤ, pos, neg_ℤ, ◌-ℤ◌, set, Result, Ok}
use Rattle.std.proofs.Math.Path.{sym, ap}
use Rattle.std.proofs.Common.{◌∙◌, append_assoc, append-nil, zero-add, drop-drop, eq-eqb, ne_eqb, le-leb, SFits, to_z, of_z}
use native.Mathlib.Omega.{arith}
use Rattle.std.proofs.Math.IntN.{+ℤ_idl}
use Rattle.std.proofs.Math.ListN.{length, drop, get_or}
use Rattle.std.proofs.lemmas.List.Edits.{sets, sets-eq}
use Rattle.std.proofs.Math.Seq.{drop_at}
use Rattle.std.proofs.lemmas.Bool.{lt-leb}
use Rattle.std.specs.Int.{w32}
use Rattle.std.proofs.lemmas.Int.{to_z_pos, to_z-of_z}
use Rattle.bits.specs.Answers.{got}
use Rattle.format.specs.Fmt.{accepted, refused}
use Rattle.format.specs.Laws.Outcomes.{one_outcome}
use Rattle.format.specs.declared.Refusal.{Refusal}
use Rattle.format.specs.Promises.{out_of, refused_by, read_record}
use Rattle.format.specs.Refusals.{shown, bare}
use Rattle.walk.specs.Laws.Stored.{sum_long, even_long, even_end, even_stands, told_stands, stored_turn}
use Rattle.tide.specs.Heights.{height_of, entry_of, entries_of, record_heights, heights_of, entry_shown, entries_shown, record_shown, heights_at}
use Rattle.tide.specs.HeightsPromises.{heights_in, Shows}
use Rattle.tide.specs.Record.{Whole, record_of}
use Rattle.tide.specs.Row.{placed_long, placed_bits, entry_bits, position_long, record_long}
use Rattle.tide.specs.Shapes.{shape_at, entries_in}
use Rattle.tide.specs.Standing.{placed_at, entry_at, entries_at, record_at, record_wide, records_at}
use Rattle.tide.specs.Tide.{tides}
use Rattle.tide.specs.Laws.Shapes.{place_long, entries_long_lem}

module _ (s : List ℕ) where
  entries_shown_lem : (n at : ℕ) (l : List ℕ) → entries_of n (entries_at s n at ++ l) ≡ entries_shown s n at
  entries_shown_lem n at l = even_stands 3 entry_bits entry_of (entry_at s) (entry_shown s) (λ at. refl) (λ at row. refl) n at l

  -- a record's heights, told in front of others; and behind its numbers stand those of the others
  record_shown_lem : (at : ℕ) (l : List ℕ) → let us = record_at s at ++ l in (record_heights us ≡ record_shown s at) × (drop (record_long us) us ≡ l)
  unfolding shape_at
  record_shown_lem at l =
      let k = got s at 1 in
      let front = k ∷ placed_at s k (at + 1) in
      let mark = at + (1 + placed_bits k) in
      let n = got s (mark + 1) 9 in
      let xs = entries_at s n (mark + 1 + 9) in
      let us = record_at s at ++ l in
      let behind = got s mark 1 ∷ n ∷ (xs ++ l) in
      let long : length front ≡ 1 + placed_long k = omega (arith, place_long s k (at + 1)) in
      let e : drop (position_long us) us ≡ behind = ap (drop (1 + placed_long k)) (append_assoc front (got s mark 1 ∷ n ∷ xs) l) ∙ drop_at front behind (1 + placed_long k) long in
      let two : 1 + (1 + n * 3) ≡ suc (suc (n * 3)) = omega arith in
      let rest : drop (1 + (1 + n * 3)) behind ≡ l = ap (λ m. drop m behind) two ∙ drop_at xs l (n * 3) (entries_long_lem s n (mark + 1 + 9)) in (
        ap (λ d. let r = drop 1 d in entries_of (get_or r 0 0) (drop 1 r)) e ∙ entries_shown_lem n (mark + 1 + 9) l,
        sym (drop-drop (1 + (1 + get_or (drop 1 (drop (position_long us) us)) 0 1 * 3)) (position_long us) us) ∙ ap (λ d. drop (1 + (1 + get_or (drop 1 d) 0 1 * 3)) d) e ∙ rest,
      )

  pub heights_stand : (n at : ℕ) → heights_of n (records_at s n at) ≡ heights_at s n at
  heights_stand n at = ap (heights_of n) (sym (append-nil (records_at s n at))) ∙ told_stands record_long record_heights (record_at s) (record_shown s) (record_wide s) record_shown_lem n at []

  -- one for each entry
  pub shown_long : (n at : ℕ) → length (entries_shown s n at) ≡ n
  shown_long n at = even_long 1 entry_bits n (entry_shown s) at (λ at. refl) ∙ omega arith

  pub heights_long : (n at : ℕ) → entries_in s n at ≡ length (heights_at s n at)
  heights_long n at = sum_long n (λ at. (shape_at s at).entries) (record_shown s) (record_wide s) at (λ at. sym (shown_long (shape_at s at).entries (shape_at s at).first))

  -- one more stored
  pub entry_turn : (row : List ℤ) {now : List ℤ} (k at j : ℕ) {x : ℤ} → x ≡ height_of (got s (at + j * entry_bits + 21) 1) (got s (at + j * entry_bits + 21 + 1) 10) → now ≡ sets row k (entries_shown s j at)
      → set now (k + j) x ≡ sets row k (entries_shown s (j + 1) at)
  entry_turn row {now} k at j d e =
      stored_turn row k (entry_shown s) (λ at. entry_bits) at j (k + j) refl (ap (k +◌) (sym (shown_long j at))) e (ap (set now (k + j)) d ∙ ap (λ p. sets now (k + j) (entry_shown s p)) (sym (even_end entry_bits j at)))

-- ---- the ways in which the call answers

module _ (s : List ℕ) (row : List ℤ) where
  pub shows_refused : {c p : ℕ} (a : Result ℕ Refusal) → out_of a ≡ refused_by (shown c p) → read_record tides record_of s ≡ refused c p → Shows s row a row
  shows_refused a is e = rw e (is, refl)

  module _ {x : Whole} (e : read_record tides record_of s ≡ accepted x) where
    abbrev zs : List ℤ
    zs = heights_in x

    pub shows_short : (a : Result ℕ Refusal) → out_of a ≡ refused_by (bare 6) → length row < length zs → Shows s row a row
    shows_short a is l = rw (e, lt-leb (length zs) (length row) l) (is, refl)

    pub shows_good : length zs ≤ length row → Shows s row (Ok (length zs)) (sets row 0 zs)
    shows_good l =
        let is : sets row 0 zs ≡ zs ++ drop (length zs) row = sets-eq zs row 0 (omega arith) ∙ ap (λ n. zs ++ drop n row) (zero-add (length zs)) in
        rw (e, le-leb (length zs) (length row) l) (refl, is)

  -- two answers that the promise allows are equal
  pub one_showing : (a b : Result ℕ Refusal) (t u : List ℤ) → Shows s row a t → Shows s row b u → (a ≡ b) × (t ≡ u)
  one_showing a b t u f g = (one_outcome a b (f.0 ∙ sym g.0), f.1 ∙ sym g.1)

-- ---- 32 signed bits

neg_fits : (m : ℕ) → m < 2 ^ 31 → SFits w32 (neg_ℤ (pos m))
neg_fits zero h = record { sfits = omega arith }
neg_fits (suc m) h = record { sfits = omega arith }

module _ (sign v : ℕ) (few : v < 2 ^ 10) where
  small : v < 2 ^ 31
  small = omega arith

  kept : to_z w32 (of_z w32 (pos v)) ≡ pos v
  kept = to_z_pos w32 v small

  minus : pos 0 -ℤ to_z w32 (of_z w32 (pos v)) ≡ neg_ℤ (pos v)
  minus = ap (λ (x : ℤ). pos 0 -ℤ x) kept ∙ +ℤ_idl (neg_ℤ (pos v))

  pub minus_fits : SFits w32 (pos 0 -ℤ to_z w32 (of_z w32 (pos v)))
  minus_fits = rw minus (neg_fits v small)

  -- the two ways out
  pub height_kept : (sign ≡ 0 → ⊥) → to_z w32 (of_z w32 (pos v)) ≡ height_of sign v
  height_kept n = kept ∙ rw (ne_eqb sign 0 n) refl

  pub height_turned : sign ≡ 0 → to_z w32 (of_z w32 (pos 0 -ℤ to_z w32 (of_z w32 (pos v)))) ≡ height_of sign v
  height_turned e = to_z-of_z w32 (pos 0 -ℤ to_z w32 (of_z w32 (pos v))) minus_fits ∙ minus ∙ rw (eq-eqb sign 0 e) refl

  fits : SFits w32 (height_of sign v)
  fits = go (eqb sign 0) refl
    where
      go : (x : Bool) → eqb sign 0 ≡ x → SFits w32 (height_of sign v)
      go true e = rw e (neg_fits v small)
      go false e = rw e (record { sfits = small })

  -- stored in a row
  pub height_stored : {z : ℤ} → z ≡ height_of sign v → to_z w32 (of_z w32 z) ≡ height_of sign v
  height_stored e = rw e (to_z-of_z w32 (height_of sign v) fits)
