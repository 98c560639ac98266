-- Which numbers of a notice's areas may be corrected, and where they stand (paper 01, "Notice and packet" and "Correcting a field"): worked out from the paper, the layout is not asked. Assumes nothing.
use Rattle.std.specs.Prelude.{ℕ, zero, suc, ◌+◌, ◌*◌, cond, List, [], ◌∷◌, ◌++◌, eqb, drop, get_or}
use Rattle.format.specs.Fmt.{Spot, none, found}

-- n points, each a latitude of `lat` bits and a longitude of `lon`: 21 and 22 of ours
unfoldable pub point_spots : (lat lon : ℕ) → ℕ → ℕ → List Spot
point_spots lat lon zero at = []
point_spots lat lon (suc n) at = found at lat ∷ found (at + lat) lon ∷ point_spots lat lon n (at + (lat + lon))

-- The numbers of n areas in a row, the first area at bit `at`: where each that may be corrected stands, and its width. A kind, of 3 bits, may not.
unfoldable pub area_spots : (lat lon : ℕ) → (n : ℕ) → (row : List ℕ) → (at : ℕ) → List Spot
area_spots lat lon zero row at = []
area_spots lat lon (suc n) row at =
    let point = lat + lon in
    let kind = get_or row 0 0 in
    let count = get_or row 1 0 in
    none
    ∷ cond
    (eqb kind 0)
    -- a sea area: its code
    (found (at + 3) 8 ∷ area_spots lat lon n (drop 2 row) (at + 11))
    (cond
    (eqb kind 3)
    -- a circle: its point, radius and unit
    (found (at + 3) lat ∷ found (at + 3 + lat) lon ∷ found (at + 3 + point) 10 ∷ found (at + 13 + point) 2 ∷ area_spots lat lon n (drop 5 row) (at + 15 + point))
    -- points, a line, a polygon (no other kind is read): how many points, 4 bits that may not be corrected, and then the points
    (none ∷ (point_spots lat lon count (at + 7) ++ area_spots lat lon n (drop (2 + count * 2) row) (at + 7 + count * point))))
