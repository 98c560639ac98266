-- What the bits of areas say of how they are told: how many points and numbers, and where they stand. Assumes nothing.
use Rattle.std.specs.Prelude.{ℕ, ◌+◌, cond, List, [], ◌∷◌, leb, length}
use Rattle.std.proofs.lemmas.List.Edits.{sets}
use Rattle.bits.specs.Answers.{got}
use Rattle.walk.specs.Groups.{repeat_sum}
use Rattle.notice_fields.specs.Areas.{Kind, kind_of}
use Rattle.notice_fields.specs.Row.{inside_long, inside_count}
use Rattle.notice_fields.specs.Standing.{inside_first, inside_wide, area_wide}
use Rattle.notice_fields.specs.declared.row.Shape.{Shape}
use Rattle.notice_fields.specs.declared.row.Extent.{Extent}

-- behind the three bits of a kind
abbrev pub shape_as : Kind → List ℕ → ℕ → Shape
shape_as k s at = let c = got s (at + 3) 4 in record { points = inside_count k c; first = at + (3 + inside_first k); next = at + (3 + inside_wide k s (at + 3)); numbers = 1 + inside_long k (c ∷ []) }

-- the area at a bit
unfoldable pub shape_at : List ℕ → ℕ → Shape
shape_at s at = shape_as (kind_of (got s at 3)) s at

-- n areas
abbrev pub numbers_in : List ℕ → ℕ → ℕ → ℕ
numbers_in s n = repeat_sum n (λ at. (shape_at s at).numbers) (area_wide s)

abbrev pub points_in : List ℕ → ℕ → ℕ → ℕ
points_in s n = repeat_sum n (λ at. (shape_at s at).points) (area_wide s)

abbrev pub extent_at : List ℕ → ℕ → ℕ → Extent
extent_at s n at = record { numbers = numbers_in s n at; points = points_in s n at }

-- numbers in front of a row that has room for them; one that has not stays
abbrev pub filled : List ℕ → List ℕ → List ℕ
filled xs row = cond (leb (length xs) (length row)) (sets row 0 xs) row
