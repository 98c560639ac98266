-- What the call for a tide telegram's heights promises of the bytes s and of the row that it is lent. Assumes nothing.
use Rattle.std.specs.Prelude.{ℕ, ◌≡◌, List, [], ℤ, length, Result}
use Rattle.format.specs.Fmt.{Out, also}
use Rattle.format.specs.Message.{leaves, into}
use Rattle.format.specs.Promises.{out_of, plain, read_record}
use Rattle.format.specs.declared.Refusal.{Refusal}
use Rattle.tide.specs.Heights.{heights_of}
use Rattle.tide.specs.Record.{Whole, record_of}
use Rattle.tide.specs.Tide.{tides}

-- a telegram's heights
abbrev pub heights_in : Whole → List ℤ
heights_in x = heights_of x.0.count x.1

-- those of the telegram that the bytes are read as
abbrev pub heights_read : List ℕ → Out (List ℤ)
heights_read s = also heights_in (read_record tides record_of s)

-- at the front of a row that has room (6, tested last); what stands past them stays
abbrev pub shown : List ℕ → List ℤ → Out (List ℤ)
shown s row = into row (heights_read s)

-- how many they are
abbrev pub counted : List ℕ → List ℤ → Out ℕ
counted s row = also (λ t. length (leaves (heights_read s) [])) (shown s row)

-- the answer, and the row t that is left
abbrev pub Shows : List ℕ → List ℤ → Result ℕ Refusal → List ℤ → Type 0
Shows s row a t = (out_of a ≡ plain (counted s row)) × (t ≡ leaves (shown s row) row)
