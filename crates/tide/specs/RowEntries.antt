-- Entries of a row that are good as they stand, and the walk behind them. Assumes nothing.
use Rattle.std.specs.Prelude.{ℕ, ◌+◌, ◌*◌, ◌^◌, ◌≤◌, ◌<◌, Bool, false, ◌≡◌, List, get_or}
use Rattle.walk.specs.Walk.{Walk}
use Rattle.tide.specs.Entries.{Good}
use Rattle.tide.specs.Row.{some_time}

-- an entry's three numbers: they fit their bits, and these are good
abbrev pub GoodEntry : (time sign value : ℕ) → Type 0
GoodEntry time sign value = (time < 2 ^ 21) × (sign < 2 ^ 1) × (value < 2 ^ 10) × Good ((time * 2 ^ 1 + sign) * 2 ^ 10 + value)

-- n entries, from number k of the row on
abbrev pub GoodEntries : List ℕ → ℕ → ℕ → Type 0
GoodEntries row n k = (j : ℕ) → j < n → let i = k + j * 3 in GoodEntry (get_or row i some_time) (get_or row (i + 1) 1) (get_or row (i + 2) 1)

-- a walk that has refused nothing and seeks no field
abbrev pub quiet : (at v : ℕ) (found : Bool) (spot width : ℕ) → Walk
quiet at v found spot width = record { at = at; code = 0; offset = 0; v = v; seek = false; left = 0; found = found; spot = spot; width = width }

-- Such a walk may pass n entries at once. What it is then is promised as a whole walk, that of judging them one by one (`entries_judged`, by `pass_quiet`), its offset included: a refusal behind them has the same number and bit.
pub record Passes (row : List ℕ) (n k : ℕ) (w : Walk) : Type 0 where
  pub is : w ≡ quiet w.at w.v w.found w.spot w.width
  pub near : w.at < 2 ^ 32
  pub some : 1 ≤ n
  pub good : GoodEntries row n k
