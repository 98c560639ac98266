-- A tide telegram told in a lent row and lent numbers (paper 02, C-11): how many records, and how many numbers these have in the row; or its heights, and how many they are. Assumes nothing.
use Rattle.std.specs.Prelude.{ℕ, ◌≡◌, List, ℤ, length}
use Rattle.format.specs.Fmt.{Out}
use Rattle.format.specs.Message.{told, leaves, ahead}
use Rattle.format.specs.Refusals.{Verdict}
use Rattle.format.specs.Promises.{answered, read_record}
use Rattle.tide.specs.HeightsPromises.{shown, counted}
use Rattle.tide.specs.Promises.{housed}
use Rattle.tide.specs.Record.{Whole, record_of as whole_of}
use Rattle.tide.specs.Tide.{tides}
use Rattle.tide.specs.declared.reading.Tide.{Tide}

-- the record of the number that the writing call is given
abbrev pub record_of : ℕ → Tide
record_of count = record { count = count }

-- the refusal of a reading's answer, and what it leaves of the lent numbers n and m and of the row
abbrev pub Tells : Out Whole → (n m : ℕ) → List ℕ → Verdict → (n' m' : ℕ) → List ℕ → Type 0
Tells o n m row code n' m' row' =
    (code ≡ told o)
    × (n' ≡ answered (λ x. x.0.count) (λ c. n) o)
    × (m' ≡ answered (λ x. length x.1) (λ c. m) o)
    × (row' ≡ answered (λ x. ahead x.1 row) (λ c. row) o)

-- what the reading call promises
abbrev pub TideTold : List ℕ → (n m : ℕ) → List ℕ → Verdict → (n' m' : ℕ) → List ℕ → Type 0
TideTold s n m row = Tells (housed (length row) (read_record tides whole_of s)) n m row

-- what the heights call promises: its refusal, and what it leaves of the row and of the lent number n
abbrev pub HeightsTold : List ℕ → List ℤ → ℕ → Verdict → List ℤ → ℕ → Type 0
HeightsTold s row n code t m = (code ≡ told (counted s row)) × (t ≡ leaves (shown s row) row) × (m ≡ leaves (counted s row) n)
