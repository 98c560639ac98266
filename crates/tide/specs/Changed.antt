-- The tide telegram with one field changed, by the field's number (paper 02, C-11): 0 to 2 are codes, 3 is the count, 4 + j the row's number j; and where each that may be corrected stands, worked out from the paper: the layout is not asked. Assumes nothing.
use Rattle.std.specs.Prelude.{ℕ, zero, suc, ◌+◌, ◌-◌, ◌*◌, cond, List, [], ◌∷◌, ◌++◌, eqb, leb, drop, get_or, set}
use Rattle.format.specs.Fmt.{Spot, none, found}
use Rattle.tide.specs.Limits.{first_entry_of}
use Rattle.tide.specs.Record.{Whole}

-- n entries, each a time of 21 bits, a sign of 1 and a value of 10
unfoldable pub entry_spots : ℕ → ℕ → List Spot
entry_spots zero at = []
entry_spots (suc n) at = found at 21 ∷ found (at + 21) 1 ∷ found (at + 22) 10 ∷ entry_spots n (at + 32)

-- The numbers of n records in a row, the first record at bit `at`: where each that may be corrected stands, and its width. A position type, of 1 bit, and a count, of 9, may not.
unfoldable pub record_spots : (n : ℕ) → (row : List ℕ) → (at : ℕ) → List Spot
record_spots zero row at = []
record_spots (suc n) row at =
    none
    ∷ cond
    (eqb (get_or row 0 0) 0)
    -- a port's code and the forecast mark, the count, and then the entries
    (let count = get_or row 3 1 in
    found (at + 1) 6 ∷ found (at + 7) 1 ∷ none ∷ (entry_spots count (at + 17) ++ record_spots n (drop (4 + count * 3) row) (at + 17 + count * 32)))
    -- a latitude, a longitude and the mark, the count, and then the entries
    (let count = get_or row 4 1 in
    found (at + 1) 21 ∷ found (at + 22) 22 ∷ found (at + 44) 1 ∷ none ∷ (entry_spots count (at + 54) ++ record_spots n (drop (5 + count * 3) row) (at + 54 + count * 32)))

-- Where the field of number i stands, if it may be corrected: type, version, class and the count of records may not, and the first record is at bit 21.
abbrev pub spot_of : Whole → ℕ → Spot
spot_of x i = get_or (none ∷ none ∷ none ∷ none ∷ record_spots x.0.count x.1 21) i none

-- how many records there are stays
unfoldable pub changed : ℕ → ℕ → Whole → Whole
changed i v x = (x.0, cond (leb first_entry_of i) (set x.1 (i - first_entry_of) v) x.1)
