-- What reading a tide telegram promises of the bytes s and the row that it is lent; correcting promises what every layout's does (format/specs/Promises). Assumes nothing.
use Rattle.std.specs.Prelude.{◌≡◌, List, ℕ, leb, length, Result}
use Rattle.format.specs.Fmt.{Out, also}
use Rattle.format.specs.Message.{ahead}
use Rattle.format.specs.Promises.{answered, out_of, plain, read_record, tested}
use Rattle.format.specs.declared.Refusal.{Refusal}
use Rattle.tide.specs.Record.{Whole, record_of}
use Rattle.tide.specs.Tide.{tides}
use Rattle.tide.specs.declared.reading.Told.{Told}

-- a record that a row of `room` entries has room for (6, tested last)
abbrev pub housed : (room : ℕ) → Out Whole → Out Whole
housed room = tested (λ x. leb (length x.1) room)

-- what an answer tells of it: the record, and how many numbers its records have
abbrev pub told_of : Whole → Told
told_of x = record { tide = x.0; numbers = length x.1 }

-- the answer, and what is left of the row
abbrev pub Reads : List ℕ → List ℕ → Result Told Refusal → List ℕ → Type 0
Reads s row a row' = let o = housed (length row) (read_record tides record_of s) in
    (out_of a ≡ plain (also told_of o)) × (row' ≡ answered (λ x. ahead x.1 row) (λ c. row) o)
