-- What `read` promises of the bytes s that it is lent; writing and correcting promise what every layout's do (format/specs/Promises). Assumes nothing.
use Rattle.std.specs.Prelude.{◌≡◌, List, ℕ, length, Result}
use Rattle.format.specs.Message.{told, into, write_message}
use Rattle.format.specs.Promises.{read_record, out_of, plain}
use Rattle.format.specs.Refusals.{Verdict}
use Rattle.txhz.specs.Txhz.{txhzs, values_of, record_of}
use Rattle.format.specs.declared.Refusal.{Refusal}
use Rattle.txhz.specs.declared.reading.Txhz.{Txhz}

abbrev pub Reads : List ℕ → Result Txhz Refusal → Type 0
Reads s a = out_of a ≡ plain (read_record txhzs record_of s)

-- what writing the record into so many bytes tells
abbrev pub Tells : Txhz → ℕ → Verdict → Type 0
Tells r room refusal = (s : List ℕ) → length s ≡ room → refusal ≡ told (into s (write_message txhzs (values_of r)))
