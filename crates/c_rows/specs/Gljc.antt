-- The frame GLJC as numbers (paper 01, "Serial frames"). Assumes nothing.
use Rattle.std.specs.Prelude.{ℕ, List, [], ◌∷◌, ℤ}
use Rattle.c_rows.specs.Row.{entries}
use Rattle.format.specs.Fmt.{Out, also}
use Rattle.format.specs.Promises.{read_record}
use Rattle.gljc.specs.Gljc.{gljcs, record_of as framed}
use Rattle.gljc.specs.declared.reading.Gljc.{Gljc}

-- a record's numbers, in the paper's order
abbrev pub row_of : Gljc → List ℕ
row_of r = r.address ∷ r.minutes ∷ []

-- the reading of the bytes s, as numbers
abbrev pub numbers_of : List ℕ → Out (List ℤ)
numbers_of s = also (λ r. entries (row_of r)) (read_record gljcs framed s)

-- the record of the numbers that a writing call is given
abbrev pub record_of : ℕ → ℕ → Gljc
record_of address minutes = record { address = address; minutes = minutes }
