-- The frame TXSQ as numbers (paper 01, "Serial frames"). Assumes nothing.
use Rattle.std.specs.Prelude.{ℕ, List, [], ◌∷◌, ℤ}
use Rattle.frame.specs.Frame.{bytes_for}
use Rattle.c_rows.specs.Row.{entries}
use Rattle.format.specs.Fmt.{Out, also}
use Rattle.format.specs.Promises.{read_record}
use Rattle.txsq.specs.Txsq.{txsqs, record_of as framed}
use Rattle.txsq.specs.declared.reading.Txsq.{Txsq}

-- a record's numbers, in the paper's order; then the byte where the content begins, and its bytes
abbrev pub row_of : Txsq → List ℕ
row_of r = r.address ∷ r.category ∷ r.mode ∷ r.password ∷ r.receiver ∷ r.size ∷ r.answer ∷ 17 ∷ bytes_for r.size ∷ []

-- the reading of the bytes s, as numbers
abbrev pub numbers_of : List ℕ → Out (List ℤ)
numbers_of s = also (λ r. entries (row_of r.0)) (read_record txsqs framed s)

-- the record of the numbers that a writing call is given
abbrev pub record_of : ℕ → ℕ → ℕ → ℕ → ℕ → ℕ → ℕ → Txsq
record_of address category mode password receiver size answer = record { address = address; category = category; mode = mode; password = password; receiver = receiver; size = size; answer = answer }
