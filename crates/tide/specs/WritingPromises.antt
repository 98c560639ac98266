-- What writing a tide telegram promises of the buffer s that it is lent: what every layout's writing does; and 6, last, where the row has fewer numbers than its position types and counts ask for. Assumes nothing.
use Rattle.std.specs.Prelude.{Bool, List, ℕ, leb, length}
use Rattle.format.specs.Message.{write_message}
use Rattle.format.specs.Promises.{Lays}
use Rattle.format.specs.Refusals.{Verdict}
use Rattle.tide.specs.Record.{values_of}
use Rattle.tide.specs.Row.{records_long}
use Rattle.tide.specs.Tide.{tides}
use Rattle.tide.specs.declared.reading.Tide.{Tide}

-- the row has what its position types and counts ask for
abbrev pub enough : Tide → List ℕ → Bool
enough r row = leb (records_long r.count row) (length row)

abbrev pub TideWrites : List ℕ → Tide → List ℕ → Verdict → List ℕ → Type 0
TideWrites s r row = Lays (enough r row) (write_message tides (values_of (r, row))) s
