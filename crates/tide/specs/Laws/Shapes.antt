-- A record's shape says where the next begins and how many numbers it has; and of n records, one more at the end. Assumes nothing.
use Rattle.std.specs.Prelude.{ℕ, suc, ◌+◌, ◌*◌, ◌≤◌, ◌≡◌, Bool, true, false, cond, List, [], ◌∷◌, eqb, length}
use Rattle.std.proofs.Math.Path.{refl}
use Rattle.std.proofs.Common.{sym, ◌∙◌}
use native.Mathlib.Omega.{arith}
use Rattle.std.proofs.Math.ListN.{length-append}
use Rattle.bits.specs.Answers.{got}
use Rattle.notice_fields.specs.Parts.{latitude_bits, longitude_bits, point_bits}
use Rattle.walk.specs.Laws.Stored.{end_more, sum_long, even_long}
use Rattle.walk.specs.Laws.Reading.{got_lt}
use Rattle.tide.specs.Row.{placed_long, placed_bits, entry_bits, long_most, record_most}
use Rattle.tide.specs.Shapes.{shape_at, numbers_in}
use Rattle.tide.specs.Standing.{placed_at, entry_at, entries_at, record_at, record_wide, records_at, records_end}

-- a position has at most two numbers, and a point's bits
pub place_small : (k : ℕ) → (placed_long k ≤ 2) × (placed_bits k ≤ point_bits)
place_small k = go (eqb k 0)
  where
    go : (x : Bool) → (cond x 1 2 ≤ 2) × (cond x 6 point_bits ≤ point_bits)
    go true = (omega arith, omega arith)
    go false = (omega arith, omega arith)

module _ (s : List ℕ) where
  pub place_long : (k at : ℕ) → length (placed_at s k at) ≡ placed_long k
  place_long k at = go (eqb k 0)
    where
      go : (x : Bool) → length (cond x (got s at 6 ∷ []) (got s at latitude_bits ∷ got s (at + latitude_bits) longitude_bits ∷ [])) ≡ cond x 1 2
      go true = refl
      go false = refl

  pub entries_long_lem : (n at : ℕ) → length (entries_at s n at) ≡ n * 3
  entries_long_lem n at = even_long 3 entry_bits n (entry_at s) at (λ at. refl)

  pub record_next : (at : ℕ) → (shape_at s at).next ≡ at + record_wide s at
  unfolding shape_at
  record_next at = omega arith

  pub record_numbers : (at : ℕ) → (shape_at s at).numbers ≡ length (record_at s at)
  unfolding shape_at
  record_numbers at =
      let k = got s at 1 in
      let counted = at + (1 + placed_bits k) + 1 in
      let n = got s counted 9 in
      let e = length-append (k ∷ placed_at s k (at + 1)) (got s (at + (1 + placed_bits k)) 1 ∷ n ∷ entries_at s n (counted + 9)) in
      omega (arith, e, place_long k (at + 1), entries_long_lem n (counted + 9))

  pub shape_numbers : (at : ℕ) → (shape_at s at).numbers ≡ placed_long (got s at 1) + 3 + got s (at + (1 + placed_bits (got s at 1)) + 1) 9 * 3
  unfolding shape_at
  shape_numbers at = refl

  -- a record is no longer than nine bits can count
  pub record_small : (at : ℕ) → ((shape_at s at).next ≤ at + record_most) × ((shape_at s at).numbers ≤ long_most) × ((shape_at s at).entries ≤ 511) × ((shape_at s at).first ≤ at + record_most)
  unfolding shape_at
  record_small at =
      let k = got s at 1 in
      let n = got_lt s (at + (1 + placed_bits k) + 1) 9 refl in
      let (a, b) = place_small k in
      (omega (arith, n, b), omega (arith, n, a), omega (arith, n), omega (arith, b))

  -- n records end where the shapes say, and have as many numbers
  pub numbers_in_lem : (n at : ℕ) → numbers_in s n at ≡ length (records_at s n at)
  numbers_in_lem n at = sum_long n (λ at. (shape_at s at).numbers) (record_at s) (record_wide s) at record_numbers

  pub next_more : (n at : ℕ) → (shape_at s (records_end s n at)).next ≡ records_end s (suc n) at
  next_more n at = record_next (records_end s n at) ∙ sym (end_more n (record_wide s) at)
