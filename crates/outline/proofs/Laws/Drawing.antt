-- The outline that a row of numbers tells is the one that stands in the bits, by the laws on counted groups; its length, and one point or one area more at its end. Assumes nothing.
use Prim.Native.Nat.{ℕ, zero, suc, ◌+◌, ◌*◌, ◌≤◌, ◌<◌}
use Rattle.std.specs.Prelude.{◌≡◌, List, [], ◌∷◌, ◌++◌, ℤ, length, get_or, set}
use Rattle.std.proofs.Math.Path.{refl, ap}
use Rattle.std.proofs.Common.{sym, ap₂, ◌∙◌, append-nil, add-one}
use native.Mathlib.Omega.{arith}
use Rattle.std.proofs.Math.ListN.{drop, length-append}
use Rattle.std.proofs.lemmas.List.Edits.{sets}
use Rattle.std.proofs.Math.Seq.{drop_at}
use Rattle.bits.specs.Answers.{got}
use Rattle.notice_fields.specs.Areas.{Kind, sea, circle, several, kind_of}
use Rattle.notice_fields.specs.Row.{inside_long, inside_count, area_long}
use Rattle.notice_fields.specs.Standing.{point_at, points_at, inside_at, area_at, area_wide, areas_at, areas_end}
use Rattle.notice_fields.specs.Shapes.{shape_as, shape_at, points_in}
use Rattle.notice_fields.specs.Laws.Shapes.{points_long, area_small}
use Rattle.format.specs.Groups.{repeat_of, repeat_told}
use Rattle.format.specs.Laws.Groups.{even, told_long}
use Rattle.walk.specs.Groups.{repeat_at, repeat_end, repeat_sum}
use Rattle.walk.specs.Laws.Stored.{item_within, stored_turn, even_end, even_long, told_stands, even_stands}
use Rattle.outline.specs.Angles.{northing, easting}
use Rattle.notice_fields.specs.Parts.{latitude_bits, longitude_bits, point_bits}
use Rattle.outline.specs.Outline.{point_of, points_of, inside_of, area_of, outline_of, point_count}
use Rattle.outline.specs.Standing.{point_drawn, points_drawn, area_drawn, outline_at}

-- ---- two numbers for each point

drawn_long : (s : List ℕ) (n at : ℕ) → length (points_drawn s n at) ≡ n * 2
drawn_long s n at = even_long 2 point_bits n (point_drawn s) at (λ at. refl)

of_long : (n : ℕ) (row : List ℕ) → length (points_of n row) ≡ n * 2
of_long n row = told_long (λ row. 2) n point_of row ∙ even 2 2 n row

inside_long_lem : (k : Kind) (row : List ℕ) → length (inside_of k row) ≡ inside_count k (get_or row 0 0) * 2
inside_long_lem sea row = refl
inside_long_lem circle row = of_long 1 row
inside_long_lem (several l) row = of_long (get_or row 0 0) (drop 1 row)

-- the outline has as many points as are counted
pub outline_long : (n : ℕ) (row : List ℕ) → length (outline_of n row) ≡ point_count n row * 2
unfolding repeat_told repeat_of
outline_long zero row = refl
outline_long (suc n) row =
    let rest = drop (area_long row) row in
    omega (arith, length-append (area_of row) (outline_of n rest), inside_long_lem (kind_of (get_or row 0 0)) (drop 1 row), outline_long n rest)

-- ---- what stands in the bits

module _ (s : List ℕ) where
  points_drawn_lem : (n at : ℕ) (l : List ℕ) → points_of n (points_at s n at ++ l) ≡ points_drawn s n at
  points_drawn_lem n at l = even_stands 2 point_bits point_of (point_at s) (point_drawn s) (λ at. refl) (λ at row. refl) n at l

  -- an area's points, told in front of others
  inside_drawn : (at : ℕ) (l : List ℕ) (k : Kind) → inside_of k (inside_at k s (at + 3) ++ l) ≡ points_drawn s (shape_as k s at).points (shape_as k s at).first
  unfolding repeat_at repeat_told
  inside_drawn at l sea = refl
  inside_drawn at l circle = refl
  inside_drawn at l (several m) =
      let n = got s (at + 3) 4 in
      let seven : at + 3 + 4 ≡ at + (3 + 4) = omega arith in
      points_drawn_lem n (at + 3 + 4) l ∙ ap (points_drawn s n) seven

  -- behind an area's numbers stand those of the others
  inside_gone : (at : ℕ) (l : List ℕ) (k : Kind) → drop (inside_long k (inside_at k s at ++ l)) (inside_at k s at ++ l) ≡ l
  unfolding repeat_at
  inside_gone at l sea = refl
  inside_gone at l circle = refl
  inside_gone at l (several m) =
      let n = got s at 4 in
      let one : 1 + n * 2 ≡ suc (n * 2) = omega arith in
      ap (λ k. drop k (n ∷ (points_at s n (at + 4) ++ l))) one ∙ drop_at (points_at s n (at + 4)) l (n * 2) (points_long s n (at + 4))

  area_drawn_lem : (at : ℕ) (l : List ℕ) → let us = area_at s at ++ l in (area_of us ≡ area_drawn s at) × (drop (area_long us) us ≡ l)
  unfolding shape_at
  area_drawn_lem at l =
      let k = kind_of (got s at 3) in
      let us = inside_at k s (at + 3) ++ l in
      let one : 1 + inside_long k us ≡ suc (inside_long k us) = omega arith in
      (inside_drawn at l k, ap (λ n. drop n (got s at 3 ∷ us)) one ∙ inside_gone (at + 3) l k)

  pub outline_stands : (n at : ℕ) → outline_of n (areas_at s n at) ≡ outline_at s n at
  outline_stands n at = ap (outline_of n) (sym (append-nil (areas_at s n at))) ∙ told_stands area_long area_of (area_at s) (area_drawn s) (area_wide s) area_drawn_lem n at []

  pub outline_at_long : (n at : ℕ) → length (outline_at s n at) ≡ points_in s n at * 2
  unfolding repeat_at repeat_sum
  outline_at_long zero at = refl
  outline_at_long (suc n) at =
      let a = shape_at s at in
      let to = at + area_wide s at in
      omega (arith, length-append (area_drawn s at) (outline_at s n to), drawn_long s a.points a.first, outline_at_long n to)

  pub count_stands : (n at : ℕ) → point_count n (areas_at s n at) ≡ points_in s n at
  count_stands n at = omega (arith, outline_long n (areas_at s n at), ap length (outline_stands n at), outline_at_long n at)

  -- the points of one area more are among those of n
  pub points_within : (i n at : ℕ) → i < n → points_in s i at + (shape_at s (areas_end s i at)).points ≤ points_in s n at
  points_within i n at h =
      let a = shape_at s (areas_end s i at) in
      omega (arith, item_within i n (area_drawn s) (area_wide s) at h, outline_at_long i at, outline_at_long n at, drawn_long s a.points a.first)

  pub points_few : (n at : ℕ) → points_in s n at ≤ n * 15
  unfolding repeat_sum
  points_few zero at = omega arith
  points_few (suc n) at = let (_, _, few) = area_small s at in omega (arith, few, points_few n (at + area_wide s at))

  pub first_near : (at : ℕ) → (shape_at s at).first ≤ at + 11
  unfolding shape_at
  first_near at = go (kind_of (got s at 3))
    where
      go : (k : Kind) → (shape_as k s at).first ≤ at + 11
      go sea = omega arith
      go circle = omega arith
      go (several l) = omega arith

  -- ---- what is stored of them

  pub point_turn : (row : List ℤ) {now : List ℤ} (k at j : ℕ) {x y : ℤ} → x ≡ northing (got s (at + j * point_bits) latitude_bits) → y ≡ easting (got s (at + j * point_bits + latitude_bits) longitude_bits) → now ≡ sets row k (points_drawn s j at)
      → set (set now (k + j * 2) x) (k + j * 2 + 1) y ≡ sets row k (points_drawn s (j + 1) at)
  point_turn row {now} k at j {x} {y} dx dy e =
      let i = k + j * 2 in
      let to : at + j * point_bits ≡ repeat_end j (λ at. point_bits) at = sym (even_end point_bits j at) in
      stored_turn row k (point_drawn s) (λ at. point_bits) at j i refl (ap (k +◌) (sym (drawn_long s j at))) e (ap (λ n. set (set now i x) n y) (add-one i) ∙ ap₂ (λ x y. sets now i (x ∷ y ∷ [])) dx dy ∙ ap (λ p. sets now i (point_drawn s p)) to)

  pub area_turn : (row : List ℤ) {now : List ℤ} (k at n i : ℕ) {t : List ℤ} → i ≡ k + points_in s n at * 2 → now ≡ sets row k (outline_at s n at) → t ≡ sets now i (area_drawn s (areas_end s n at)) → t ≡ sets row k (outline_at s (n + 1) at)
  area_turn row k at n i here e d = stored_turn row k (area_drawn s) (area_wide s) at n i refl (here ∙ ap (k +◌) (sym (outline_at_long n at))) e d
