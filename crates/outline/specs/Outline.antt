-- The outline of a notice (paper 01, "Notice and packet"): its points, latitude then longitude, in hundredths of a minute, south and west negative; a circle gives its centre, a sea area nothing. Assumes nothing.
use Rattle.std.specs.Prelude.{ℕ, List, [], ◌∷◌, ℤ, drop, get_or}
use Rattle.format.specs.Groups.{repeat_of, repeat_told}
use Rattle.outline.specs.Angles.{northing, easting}
use Rattle.notice_fields.specs.Areas.{Kind, sea, circle, several, kind_of}
use Rattle.notice_fields.specs.Row.{inside_count, area_long}

-- a point, and n of them, told by a row of numbers
abbrev pub point_of : List ℕ → List ℤ
point_of row = northing (get_or row 0 0) ∷ easting (get_or row 1 0) ∷ []

abbrev pub points_of : ℕ → List ℕ → List ℤ
points_of n = repeat_told (λ row. 2) n point_of

-- an area's points, told behind its kind
abbrev pub inside_of : Kind → List ℕ → List ℤ
inside_of sea row = []
inside_of circle row = points_of 1 row
inside_of (several least) row = points_of (get_or row 0 0) (drop 1 row)

abbrev pub area_of : List ℕ → List ℤ
area_of row = inside_of (kind_of (get_or row 0 0)) (drop 1 row)

-- n areas told one behind another, each its kind and what it holds
abbrev pub outline_of : ℕ → List ℕ → List ℤ
outline_of n = repeat_told area_long n area_of

-- and how many points they have
abbrev pub point_count : ℕ → List ℕ → ℕ
point_count n = repeat_of area_long n (λ row. inside_count (kind_of (get_or row 0 0)) (get_or (drop 1 row) 0 0))
