-- A run over lent bytes is, read as rows of places, the run of its calls (desk_runs), and its numbers are those of that run's log: by induction, since each call leaves the row that it says. Assumes nothing.
use Rattle.std.specs.Prelude.{◌≡◌, List, ℕ, ◌≤◌, length}
use Rattle.places.specs.Places.{four_places}
use Rattle.desk_runs.specs.Runs.{Call, run, log}
use Rattle.desk_bytes.specs.Bytes.{begins}
use Rattle.desk_runs.specs.Lent.{Lent, desk_in, calls_of}

pub record Follows (d : Lent) (h : List (Call × ℕ)) (e : Lent) : Type 0 where
  pub wide : begins four_places ≤ length e.places
  pub left : desk_in e ≡ run (desk_in d) (calls_of h)
  pub logged : h ≡ log (desk_in d) (calls_of h)
