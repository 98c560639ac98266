-- The heights of a tide telegram (paper 02, C-11): of each entry its level in centimetres, negative where the sign is 0, in the telegram's order; as a row of its records' numbers tells them, and as they stand in its bits. Assumes nothing.
use Rattle.std.specs.Prelude.{ℕ, ◌+◌, cond, List, [], ◌∷◌, eqb, ℤ, pos, neg_ℤ, drop, get_or}
use Rattle.bits.specs.Answers.{got}
use Rattle.format.specs.Groups.{repeat_told}
use Rattle.walk.specs.Groups.{repeat_at}
use Rattle.tide.specs.Row.{entry_bits, position_long, record_long}
use Rattle.tide.specs.Shapes.{shape_at}
use Rattle.tide.specs.Standing.{record_wide}

-- a level by its sign and its value
abbrev pub height_of : ℕ → ℕ → ℤ
height_of sign v = cond (eqb sign 0) (neg_ℤ (pos v)) (pos v)

-- ---- told by a row of numbers

-- an entry: a time, a sign, a value; and n of them
abbrev pub entry_of : List ℕ → List ℤ
entry_of row = height_of (get_or row 1 0) (get_or row 2 0) ∷ []

abbrev pub entries_of : ℕ → List ℕ → List ℤ
entries_of n = repeat_told (λ row. 3) n entry_of

-- a record: behind its position and its forecast mark a count, and so many entries
abbrev pub record_heights : List ℕ → List ℤ
record_heights row = let r = drop 1 (drop (position_long row) row) in entries_of (get_or r 0 0) (drop 1 r)

-- n records
abbrev pub heights_of : ℕ → List ℕ → List ℤ
heights_of n = repeat_told record_long n record_heights

-- ---- as they stand in the bits

abbrev pub entry_shown : List ℕ → ℕ → List ℤ
entry_shown s at = height_of (got s (at + 21) 1) (got s (at + 21 + 1) 10) ∷ []

abbrev pub entries_shown : List ℕ → ℕ → ℕ → List ℤ
entries_shown s n = repeat_at n (entry_shown s) (λ at. entry_bits)

abbrev pub record_shown : List ℕ → ℕ → List ℤ
record_shown s at = let a = shape_at s at in entries_shown s a.entries a.first

abbrev pub heights_at : List ℕ → ℕ → ℕ → List ℤ
heights_at s n = repeat_at n (record_shown s) (record_wide s)
