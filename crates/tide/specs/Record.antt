-- A tide telegram as a record, with the numbers of its records in a row: their values in bit order, and back. Assumes nothing.
use Rattle.std.specs.Prelude.{ℕ, List, ◌∷◌, drop, get_or}
use Rattle.tide.specs.Row.{records_told}
use Rattle.tide.specs.declared.reading.Tide.{Tide}

-- the record, and the row
abbrev pub Whole : Type 0
Whole = Tide × List ℕ

-- the head's values before those that follow
abbrev pub leading : ℕ → List ℕ → List ℕ
leading count l = 0xE4 ∷ 1 ∷ 0 ∷ count ∷ l

unfoldable pub values_of : Whole → List ℕ
values_of x = let n = x.0.count in leading n (records_told n x.1)

-- behind four values stand the records'
unfoldable pub record_of : List ℕ → Whole
record_of vs = (record { count = get_or vs 3 0 }, drop 4 vs)
