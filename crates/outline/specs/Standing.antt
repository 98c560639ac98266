-- The outline of areas as they stand in a message's bits, from a bit on. Assumes nothing.
use Rattle.std.specs.Prelude.{ℕ, ◌+◌, List, [], ◌∷◌, ℤ}
use Rattle.bits.specs.Answers.{got}
use Rattle.walk.specs.Groups.{repeat_at}
use Rattle.notice_fields.specs.Shapes.{shape_at}
use Rattle.outline.specs.Angles.{northing, easting}
use Rattle.notice_fields.specs.Parts.{latitude_bits, longitude_bits, point_bits}
use Rattle.notice_fields.specs.Standing.{area_wide}

-- a point, and n of them
abbrev pub point_drawn : List ℕ → ℕ → List ℤ
point_drawn s at = northing (got s at latitude_bits) ∷ easting (got s (at + latitude_bits) longitude_bits) ∷ []

abbrev pub points_drawn : List ℕ → ℕ → ℕ → List ℤ
points_drawn s n = repeat_at n (point_drawn s) (λ at. point_bits)

-- an area
abbrev pub area_drawn : List ℕ → ℕ → List ℤ
area_drawn s at = let a = shape_at s at in points_drawn s a.points a.first

-- n areas
abbrev pub outline_at : List ℕ → ℕ → ℕ → List ℤ
outline_at s n = repeat_at n (area_drawn s) (area_wide s)
