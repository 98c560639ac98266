-- Areas told by a row of numbers, one behind another, each its kind and what it holds: how many numbers n areas have, and which. Assumes nothing.
use Rattle.std.specs.Prelude.{ℕ, ◌+◌, ◌*◌}
use Rattle.format.specs.Groups.{Measure, decided_of, repeat_of, Telling, one_told, then_told, decided_told, repeat_told}
use Rattle.notice_fields.specs.Areas.{Kind, sea, circle, several, kind_of}

-- behind the kind: a code; a point, radius and unit; or a count and its points, two numbers each
abbrev pub inside_long : Kind → Measure
inside_long sea row = 1
inside_long circle row = 4
inside_long (several least) row = decided_of 0 (λ n r. n * 2) row

-- how many points these are, where c comes first
abbrev pub inside_count : Kind → ℕ → ℕ
inside_count sea c = 0
inside_count circle c = 1
inside_count (several least) c = c

abbrev pub area_long : Measure
area_long = decided_of 0 (λ k. inside_long (kind_of k))

-- at most: the kind, a count and 15 points
abbrev pub long_most : ℕ
long_most = 2 + 15 * 2

abbrev pub areas_long : ℕ → Measure
areas_long n = repeat_of area_long n area_long

-- ---- these numbers; where the row has none it is 0

abbrev pub point_told : Telling
point_told = then_told (λ row. 1) (one_told 0) (one_told 0)

abbrev pub inside_told : Kind → Telling
inside_told sea = one_told 0
inside_told circle = then_told (λ row. 2) point_told (then_told (λ row. 1) (one_told 0) (one_told 0))
inside_told (several least) = decided_told 0 (λ n. repeat_told (λ row. 2) n point_told)

abbrev pub area_told : Telling
area_told = decided_told 0 (λ k. inside_told (kind_of k))

abbrev pub areas_told : ℕ → Telling
areas_told n = repeat_told area_long n area_told
