-- An area's shape says where the next begins and how many numbers it has: by its kind; and of n areas, one more at the end. Assumes nothing.
use Prim.Native.Nat.{ℕ, suc, ◌+◌, ◌*◌, ◌≤◌, ◌<◌}
use Rattle.std.specs.Prelude.{◌≡◌, List, [], ◌∷◌, length}
use Rattle.std.proofs.Math.Path.{refl}
use Rattle.std.proofs.Common.{sym, ◌∙◌, arith}
use Rattle.std.proofs.Math.ListN.{length-append}
use Rattle.bits.specs.Answers.{got}
use Rattle.walk.specs.Laws.Reading.{got_lt}
use Rattle.notice_fields.specs.Areas.{Kind, sea, circle, several, kind_of}
use Rattle.notice_fields.specs.Row.{long_most}
use Rattle.notice_fields.specs.Standing.{point_at, points_at, inside_at, area_at, area_wide, area_most, areas_at, areas_end}
use Rattle.walk.specs.Laws.Stored.{end_more, sum_long, even_long}
use Rattle.notice_fields.specs.Parts.{point_bits}
use Rattle.notice_fields.specs.Shapes.{shape_as, shape_at, numbers_in}

pub points_long : (s : List ℕ) (n at : ℕ) → length (points_at s n at) ≡ n * 2
points_long s n at = even_long 2 point_bits n (point_at s) at (λ at. refl)

module _ (s : List ℕ) where
  pub area_next : (at : ℕ) → (shape_at s at).next ≡ at + area_wide s at
  unfolding shape_at
  area_next at = refl

  pub area_numbers_lem : (at : ℕ) → (shape_at s at).numbers ≡ length (area_at s at)
  unfolding shape_at
  area_numbers_lem at = go (kind_of (got s at 3))
    where
      go : (k : Kind) → (shape_as k s at).numbers ≡ suc (length (inside_at k s (at + 3)))
      go sea = refl
      go circle = let e = length-append (points_at s 1 (at + 3)) (got s (at + 3 + point_bits) 10 ∷ got s (at + 3 + point_bits + 10) 2 ∷ []) in omega (arith, e, points_long s 1 (at + 3))
      go (several l) = omega (arith, points_long s (got s (at + 3) 4) (at + 3 + 4))

  -- an area is no longer than four bits can count
  pub area_small : (at : ℕ) → ((shape_at s at).next ≤ at + area_most) × ((shape_at s at).numbers ≤ long_most) × ((shape_at s at).points ≤ 15)
  unfolding shape_at
  area_small at = go (kind_of (got s at 3))
    where
      n : got s (at + 3) 4 < 16
      n = got_lt s (at + 3) 4 refl

      go : (k : Kind) → ((shape_as k s at).next ≤ at + area_most) × ((shape_as k s at).numbers ≤ long_most) × ((shape_as k s at).points ≤ 15)
      go sea = (omega arith, omega arith, omega arith)
      go circle = (omega arith, omega arith, omega arith)
      go (several l) = (omega (arith, n), omega (arith, n), omega (arith, n))

  -- n areas end where the shapes say, and have as many numbers
  pub numbers_in_lem : (n at : ℕ) → numbers_in s n at ≡ length (areas_at s n at)
  numbers_in_lem n at = sum_long n (λ at. (shape_at s at).numbers) (area_at s) (area_wide s) at area_numbers_lem

  pub next_more : (n at : ℕ) → (shape_at s (areas_end s n at)).next ≡ areas_end s (suc n) at
  next_more n at = area_next (areas_end s n at) ∙ sym (end_more n (area_wide s) at)
