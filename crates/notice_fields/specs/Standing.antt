-- The numbers that stand in a message's areas, from a bit on, whether they are good or not; and where the areas end. Assumes nothing.
use Rattle.std.specs.Prelude.{ℕ, ◌+◌, ◌*◌, List, [], ◌∷◌, ◌++◌}
use Rattle.bits.specs.Answers.{got}
use Rattle.walk.specs.Groups.{repeat_at, repeat_end}
use Rattle.notice_fields.specs.Parts.{latitude_bits, longitude_bits, point_bits}
use Rattle.notice_fields.specs.Areas.{Kind, sea, circle, several, kind_of}

-- the bit where a notice's first area begins
abbrev pub front : ℕ
front = 63

abbrev pub point_at : List ℕ → ℕ → List ℕ
point_at s at = got s at latitude_bits ∷ got s (at + latitude_bits) longitude_bits ∷ []

abbrev pub points_at : List ℕ → ℕ → ℕ → List ℕ
points_at s n = repeat_at n (point_at s) (λ at. point_bits)

-- behind the number of a kind
abbrev pub inside_at : Kind → List ℕ → ℕ → List ℕ
inside_at sea s at = got s at 8 ∷ []
inside_at circle s at = points_at s 1 at ++ (got s (at + point_bits) 10 ∷ got s (at + point_bits + 10) 2 ∷ [])
inside_at (several least) s at = got s at 4 ∷ points_at s (got s at 4) (at + 4)

-- how many bits stand there in front of the points
abbrev pub inside_first : Kind → ℕ
inside_first sea = 8
inside_first circle = 0
inside_first (several least) = 4

-- how many bits these have
abbrev pub inside_wide : Kind → List ℕ → ℕ → ℕ
inside_wide sea s at = 8
inside_wide circle s at = point_bits + 12
inside_wide (several least) s at = 4 + got s at 4 * point_bits

-- an area
abbrev pub area_at : List ℕ → ℕ → List ℕ
area_at s at = got s at 3 ∷ inside_at (kind_of (got s at 3)) s (at + 3)

abbrev pub area_wide : List ℕ → ℕ → ℕ
area_wide s at = 3 + inside_wide (kind_of (got s at 3)) s (at + 3)

-- at most: 15 points behind their count
abbrev pub inside_most : ℕ
inside_most = 4 + 15 * point_bits

abbrev pub area_most : ℕ
area_most = 3 + inside_most

-- n areas
abbrev pub areas_at : List ℕ → ℕ → ℕ → List ℕ
areas_at s n = repeat_at n (area_at s) (area_wide s)

abbrev pub areas_end : List ℕ → ℕ → ℕ → ℕ
areas_end s n = repeat_end n (area_wide s)
