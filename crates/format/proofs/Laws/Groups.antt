-- Counted groups, once for every layout: what holds of an item holds of it repeated. Assumes nothing.
use Rattle.std.specs.Prelude.{ℕ, ◌*◌}
use Rattle.std.proofs.Common.{subst}
use Rattle.format.specs.Fmt.{Fmt}
use Rattle.format.specs.Words.{Test, only}
use Rattle.format.specs.Laws.Zero.{only_numbered}
use Rattle.format.specs.Groups.{repeat, counted, decided_of, Telling, decided_told, repeat_told}
use Rattle.format.specs.Laws.Groups.{Item, decided, repeated, even}

pub evenly : {item : Fmt → Fmt} {tell : Telling} {l : ℕ} → Item item tell (λ r. l) → (n : ℕ) → Item (repeat n item) (repeat_told (λ r. l) n tell) (λ r. n * l)
evenly {item} {tell} {l} x n = subst (Item (repeat n item) (repeat_told (λ r. l) n tell)) (λ i row. even l l n row i) (repeated x n)

-- counted
pub counted_evenly : {item : Fmt → Fmt} {tell : Telling} {l : ℕ} (g w : ℕ) (t : Test) → Item item tell (λ r. l) → Item (counted w t item) (decided_told g (λ n. repeat_told (λ r. l) n tell)) (decided_of g (λ n r. n * l))
counted_evenly g w t x = decided g w (only w 4 t) (only_numbered w 3 t) (λ n. evenly x n)
