-- The frame TXXX as numbers (paper 01, "Serial frames"). Assumes nothing.
use Rattle.std.specs.Prelude.{ℕ, List, [], ◌∷◌, ℤ}
use Rattle.frame.specs.Frame.{bytes_for}
use Rattle.c_rows.specs.Row.{entries}
use Rattle.format.specs.Fmt.{Out, also}
use Rattle.format.specs.Promises.{read_record}
use Rattle.txxx.specs.Txxx.{txxxs, record_of as framed}
use Rattle.txxx.specs.declared.reading.Txxx.{Txxx}

-- a record's numbers, in the paper's order; then the byte where the content begins, and its bytes
abbrev pub row_of : Txxx → List ℕ
row_of r = r.address ∷ r.class ∷ r.sender ∷ r.hour ∷ r.minute ∷ r.size ∷ r.mark ∷ 18 ∷ bytes_for r.size ∷ []

-- the reading of the bytes s, as numbers
abbrev pub numbers_of : List ℕ → Out (List ℤ)
numbers_of s = also (λ r. entries (row_of r.0)) (read_record txxxs framed s)

-- the record of the numbers that a writing call is given
abbrev pub record_of : ℕ → ℕ → ℕ → ℕ → ℕ → ℕ → ℕ → Txxx
record_of address class sender hour minute size mark = record { address = address; class = class; sender = sender; hour = hour; minute = minute; size = size; mark = mark }
