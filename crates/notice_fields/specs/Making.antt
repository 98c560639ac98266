-- What judging and putting the areas that a row of numbers tells gives: over points, one area by its kind, and all of them. Assumes nothing.
use Rattle.std.specs.Prelude.{ℕ, ◌+◌, false, List, get_or}
use Rattle.format.specs.Correcting.{put_in}
use Rattle.walk.specs.Judging.{valued}
use Rattle.walk.specs.Rows.{JudgeStep, one_judged, then_judged, decided_judged, even_judged, even_step, counted_judged, repeat_judged, PutStep, one_put, then_put, decided_put, even_put, even_put_step, counted_put, repeat_put}
use Rattle.walk.specs.Walk.{Walk}
use Rattle.notice_fields.specs.Areas.{Kind, sea, circle, several, kind_of}
use Rattle.notice_fields.specs.Parts.{latitude_bits, longitude_bits, point_bits}
use Rattle.notice_fields.specs.Standing.{front}
use Rattle.notice_fields.specs.PartsSteps.{latitude_judged, longitude_judged}

-- ---- judged

-- a walk at the first area: nothing is refused, and no field is sought
abbrev pub fresh : Walk
fresh = record { at = front; code = 0; offset = 0; v = 0; seek = false; left = 0; found = false; spot = 0; width = 0 }

-- the point that begins with number k of the row
abbrev pub point_judged : List ℕ → ℕ → Walk → Walk
point_judged row k r = longitude_judged (get_or row (k + 1) 0) (latitude_judged (get_or row k 0) r)

abbrev pub points_judged : List ℕ → ℕ → ℕ → Walk → Walk
points_judged row n = even_judged 2 n (point_judged row)

-- what a kind holds; behind a refused count of points these are not walked
abbrev pub inside_judged : List ℕ → Kind → JudgeStep
inside_judged row sea = one_judged row 0 (λ v. valued 8 v 0 255)
inside_judged row circle = then_judged (even_step 2 1 (point_judged row)) (then_judged (one_judged row 0 (λ v. valued 10 v 0 1_023)) (one_judged row 0 (λ v. valued 2 v 0 3)))
inside_judged row (several least) = counted_judged row 0 4 least 15 2 (point_judged row)

abbrev pub area_judged : List ℕ → JudgeStep
area_judged row = decided_judged row 0 3 0 4 (λ k. inside_judged row (kind_of k))

-- n areas; the first refused one ends it
abbrev pub areas_judged : List ℕ → ℕ → JudgeStep
areas_judged row n = repeat_judged n (area_judged row)

-- ---- put

-- the point that begins with number k, at bit `at` of t
abbrev pub point_put : List ℕ → (k at : ℕ) → List ℕ → List ℕ
point_put row k at t = put_in (put_in t at latitude_bits (get_or row k 0)) (at + latitude_bits) longitude_bits (get_or row (k + 1) 0)

abbrev pub points_put : List ℕ → (n k at : ℕ) → List ℕ → List ℕ
points_put row n = even_put 2 point_bits n (point_put row)

-- what a kind holds; of a count of points no more than its four bits is put
abbrev pub inside_put : List ℕ → Kind → PutStep
inside_put row sea = one_put row 0 8
inside_put row circle = then_put (even_put_step 2 point_bits 1 (point_put row)) (then_put (one_put row 0 10) (one_put row 0 2))
inside_put row (several least) = counted_put row 0 4 2 point_bits (point_put row)

abbrev pub area_put : List ℕ → PutStep
area_put row = decided_put row 0 3 (λ k. inside_put row (kind_of k))

abbrev pub areas_put : List ℕ → ℕ → PutStep
areas_put row n = repeat_put n (area_put row)
