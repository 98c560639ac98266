-- Correcting one field changes the bits of that field alone, for every layout. Assumes nothing.
use Rattle.std.specs.Prelude.{◌≡◌, Bool, List, ℕ, ◌+◌, length}
use Rattle.std.proofs.Common.{arith}
use Rattle.bits.specs.Bits.{splice}
use Rattle.format.specs.Fmt.{Out, accepted, Spot, none, found, later}

-- a field found behind another
pub later_inv : (u : ℕ) (s : Spot) {p w : ℕ} → later u s ≡ found p w → (q : ℕ) × (s ≡ found q w) × (u + q ≡ p)
later_inv u none e = let z : ◌≡◌ {A = ℕ} 0 1 = cc in absurd (omega arith)
later_inv u (found q w) e = (q, cc, cc)

-- nothing is found where there is nothing
pub none_clash : {X : Type 0} {p w : ℕ} → none ≡ found p w → X
none_clash e = let z : ◌≡◌ {A = ℕ} 0 1 = cc in absurd (omega arith)

-- The answer is the bits with one field changed, as many as before.
pub record Spliced (o : Out (List Bool)) (b : List Bool) (p w v : ℕ) : Type 0 where
  pub laid : o ≡ accepted (splice p w v b)
  pub long : length (splice p w v b) ≡ length b
