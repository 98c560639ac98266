-- `entry` meets its contract: past its end a row has what is said.
use Rattle.std.proofs.Common.{◌≡◌, ℕ, zero, suc, ◌<◌, List, [], ◌∷◌, length, get_or, sym, refl, arith}
use lib.ListN.{get_or-eq_default}
use Rattle.walk.proofs.making.entry.Goals as goal

pub overflow_cast-result : goal.overflow_cast-result
overflow_cast-result c = let a = c.args in omega (arith, (c.shared_slice_known-1.given a.k).fits)

-- where a list has an entry, it does not matter what would count for it
there : (l : List ℕ) (k a b : ℕ) → k < length l → get_or l k a ≡ get_or l k b
there [] k a b h = absurd (omega arith)
there (x ∷ l) zero a b h = refl
there (x ∷ l) (suc k) a b h = there l k a b (omega arith)

pub returns-then-k-row : goal.returns-then-k-row
returns-then-k-row c = let a = c.args in there a.row.now a.k 0 a.missing (omega arith)

pub returns-else-k-row : goal.returns-else-k-row
returns-else-k-row c = let a = c.args in sym (get_or-eq_default a.row.now a.missing {n = a.k} (omega arith))
