-- What `read` promises of the bytes s that it is lent; writing and correcting promise what every layout's do (format/specs/Promises). Assumes nothing.
use Rattle.std.specs.Prelude.{◌≡◌, List, ℕ, Result}
use Rattle.format.specs.declared.Refusal.{Refusal}
use Rattle.format.specs.Promises.{read_record, out_of, plain}
use Rattle.gljc.specs.Gljc.{gljcs, record_of}
use Rattle.gljc.specs.declared.reading.Gljc.{Gljc}

abbrev pub Reads : List ℕ → Result Gljc Refusal → Type 0
Reads s a = out_of a ≡ plain (read_record gljcs record_of s)
