-- A to L: every letter has its rows; one test that is computed over the whole table, and one law that turns it into the equation of each row. Assumes nothing.
use Rattle.std.specs.Prelude.{ℕ, zero, suc, ◌<◌, true, List, [], ◌∷◌, ◌≡◌, length}
use Rattle.std.proofs.Common.{le_of_suc-le-suc, not-suc-le-zero}
use Rattle.std.proofs.Math.Bool.{and-eq-true_iff}
use Rattle.places.specs.Desk.{alike}
use Rattle.places.specs.Laws.Alike.{alike_same}
use Rattle.numbers_to_stand_by.specs.Table.{Row, table, standing}
use Rattle.numbers_to_stand_by.specs.Laws.Stands.{all_stand, row_at}

-- what the test finds of a table is so at each of its rows
at_each : (rs : List Row) → standing rs ≡ true → (i : ℕ) → i < length rs → (row_at rs i).answer ≡ (row_at rs i).paper
unfolding standing
at_each [] e i l = absurd (not-suc-le-zero l)
at_each (r ∷ rs) e zero l = alike_same r.answer r.paper ((and-eq-true_iff (alike r.answer r.paper) (standing rs)).0 e).0
at_each (r ∷ rs) e (suc i) l = at_each rs ((and-eq-true_iff (alike r.answer r.paper) (standing rs)).0 e).1 i (le_of_suc-le-suc l)

-- the definitions answer what the paper says
pub stands : (i : ℕ) → i < length table → (row_at table i).answer ≡ (row_at table i).paper
stands = at_each table all_stand
