-- The packet as numbers (paper 01, "Notice and packet"). Assumes nothing.
use Rattle.std.specs.Prelude.{ℕ, List, [], ◌∷◌, ℤ, length}
use Rattle.c_rows.specs.Row.{entries}
use Rattle.format.specs.Fmt.{Out, also}
use Rattle.format.specs.Promises.{read_record}
use Rattle.packet.specs.Packet.{packets, record_of as packet_of}
use Rattle.packet.specs.declared.reading.Packet.{Packet}

-- a record's numbers, in the paper's order; then the byte where the content begins, and its n bytes
abbrev pub row_of : Packet → ℕ → List ℕ
row_of r n = r.language ∷ r.number ∷ r.total ∷ r.own ∷ 4 ∷ n ∷ []

-- the reading of the bytes s, as numbers
abbrev pub numbers_of : List ℕ → Out (List ℤ)
numbers_of s = also (λ r. entries (row_of r.0 (length r.1))) (read_record packets packet_of s)

-- the record of the numbers that a writing call is given
abbrev pub record_of : ℕ → ℕ → ℕ → ℕ → Packet
record_of language number total own = record { language = language; number = number; total = total; own = own }
