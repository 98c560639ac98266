-- What judging and putting a tide telegram gives, step by step. Assumes nothing.
use Rattle.std.specs.Prelude.{ℕ, ◌*◌, ◌≤◌, ◌≡◌, Bool, List, [], length}
use Rattle.bits.specs.Bits.{Bytes}
use Rattle.format.specs.Fmt.{accepted, write}
use Rattle.format.specs.Laws.Putting.{Putting, Puts}
use Rattle.walk.specs.Laws.Judging.{Judged}
use Rattle.walk.specs.Walk.{Stepped}
use Rattle.tide.specs.Record.{leading, values_of}
use Rattle.tide.specs.Row.{records_long}
use Rattle.tide.specs.Standing.{front}
use Rattle.tide.specs.Tide.{rest, tides}
use Rattle.tide.specs.declared.reading.Tide.{Tide}

-- all of it is judged
pub record TideJudged (r : Tide) (row : List ℕ) (s : Stepped) : Type 0 where
  pub judged : Judged (write tides.fmt [] 0 (values_of (r, row))) s.walk
  pub asked : s.walk.code ≡ 0 → s.next ≡ records_long r.count row

-- putting stands at the records
abbrev pub HeadPut : ℕ → List ℕ → List ℕ → Type 0
HeadPut n s t = (vs : List ℕ) (b : List Bool) → Bytes s → write tides.fmt [] 0 (leading n vs) ≡ accepted b → length b ≤ length s * 8 → Putting s b (rest n) front vs t

abbrev pub TidePut : Tide → List ℕ → List ℕ → List ℕ → Type 0
TidePut r row s t = Puts tides.fmt (values_of (r, row)) s t
