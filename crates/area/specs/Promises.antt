-- What `read` promises of the bytes s that it is lent; writing and correcting promise what every layout's do (format/specs/Promises). Assumes nothing.
use Rattle.std.specs.Prelude.{◌≡◌, List, ℕ, Result}
use Rattle.format.specs.declared.Refusal.{Refusal}
use Rattle.format.specs.Promises.{read_record, out_of, plain}
use Rattle.area.specs.Area.{areas, record_of}
use Rattle.area.specs.declared.reading.Area.{Area}

abbrev pub Reads : List ℕ → Result Area Refusal → Type 0
Reads s a = out_of a ≡ plain (read_record areas record_of s)
