-- The areas of a notice (paper 01, "Notice and packet"; 000, 5.2.2.3.8): their layout. Assumes nothing.
use Rattle.std.specs.Prelude.{ℕ, cond, eqb}
use Rattle.format.specs.Fmt.{Fmt}
use Rattle.format.specs.Groups.{repeat, counted}
use Rattle.format.specs.Words.{◌‥◌, ◌▹◌, num, deciding}
use Rattle.notice_fields.specs.Terms.{Point, point_of}

-- what an area is, by its number: 0 a sea area; 3 a circle; 1 points, 2 a line, 4 a polygon, which have so many points at least
pub data Kind : Type 0 where
  sea : Kind
  circle : Kind
  several : (least : ℕ) → Kind

-- at least 1 point, 2 of a line, 3 of a polygon
abbrev pub least_of : ℕ → ℕ
least_of k = cond (eqb k 1) 1 (cond (eqb k 2) 2 3)

abbrev pub kind_of : ℕ → Kind
kind_of k = cond (eqb k 0) sea (cond (eqb k 3) circle (several (least_of k)))

-- what an area of such points holds: a code; its middle, radius and unit; or its points, counted
abbrev pub inside : Point → Kind → Fmt → Fmt
inside p sea f = num 8 (0 ‥ 255) f
inside p circle f = point_of p ▹ num 10 (0 ‥ 1_023) ▹ num 2 (0 ‥ 3) ▹ f
inside p (several least) f = counted 4 (least ‥ 15) (point_of p) f

-- its kind decides
abbrev pub area : Point → Fmt → Fmt
area p f = deciding 3 (0 ‥ 4) λ k. inside p (kind_of k) f

abbrev pub areas : Point → ℕ → Fmt → Fmt
areas p n = repeat n (area p)
