-- What the code answers: a subtype's limits, and its steps over an expiry, a time and an angle, read and judged. Assumes nothing.
use Rattle.std.specs.Prelude.{ℕ, ◌||◌, cond, List, [], eqb}
use Rattle.walk.specs.Pieces.{piecewise, unless_zero}
use Rattle.walk.specs.Reading.{group_read, group_judged}
use Rattle.walk.specs.Pieces.{Pieces}
use Rattle.walk.specs.Walk.{Walk}
use Rattle.notice_fields.specs.Parts.{moment, angle, latitude_bits, longitude_bits}

-- the subtypes of the type t: from the least to the most
unfoldable pub most_subtype : ℕ → ℕ
most_subtype t = cond (eqb t 1) 10 (cond (eqb t 4 || eqb t 6) 13 (cond (eqb t 5) 8 0))

unfoldable pub least_subtype : ℕ → ℕ
least_subtype t = cond (eqb (most_subtype t) 0) 0 1

-- ---- the expiry, and a time that is known: read by the bits that there are, and a record's value judged

abbrev pub expiry_pieces : Pieces → Pieces
expiry_pieces g = unless_zero 21 (piecewise moment [] g)

abbrev pub expiry_read : List ℕ → Walk → Walk
expiry_read s r = group_read s 21 expiry_pieces r

abbrev pub expiry_judged : ℕ → Walk → Walk
expiry_judged v r = group_judged 21 expiry_pieces v r

abbrev pub time_read : List ℕ → Walk → Walk
time_read s r = group_read s 21 (piecewise moment []) r

abbrev pub time_judged : ℕ → Walk → Walk
time_judged v r = group_judged 21 (piecewise moment []) v r

-- ---- an angle

abbrev pub latitude_read : List ℕ → Walk → Walk
latitude_read s r = group_read s latitude_bits (piecewise (angle 7 90) []) r

abbrev pub longitude_read : List ℕ → Walk → Walk
longitude_read s r = group_read s longitude_bits (piecewise (angle 8 180) []) r

abbrev pub latitude_judged : ℕ → Walk → Walk
latitude_judged v r = group_judged latitude_bits (piecewise (angle 7 90) []) v r

abbrev pub longitude_judged : ℕ → Walk → Walk
longitude_judged v r = group_judged longitude_bits (piecewise (angle 8 180) []) v r
