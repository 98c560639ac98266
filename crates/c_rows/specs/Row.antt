-- A reading's numbers in a lent row (paper 01, "Refusal numbers"). Assumes nothing.
use Rattle.std.specs.Prelude.{ℕ, ◌≡◌, List, map, ℤ, pos}
use Rattle.format.specs.Fmt.{Out}
use Rattle.format.specs.Message.{told, leaves, into}
use Rattle.format.specs.Refusals.{Verdict}

-- numbers as a row's entries
abbrev pub entries : List ℕ → List ℤ
entries = map pos

-- what a call promises that answers a reading in a row: its refusal, and the row t that it leaves
pub record Fills (o : Out (List ℤ)) (row : List ℤ) (code : Verdict) (t : List ℤ) : Type 0 where
  pub code_is : code ≡ told (into row o)
  pub row_is : t ≡ leaves (into row o) row
