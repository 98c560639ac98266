-- An entry is good where its size is within a limit, which is 0 from the total on; and no entry is held where the greatest is 0.
-- Assumes nothing.
use mathlib.Core.Path.{◌≡◌, refl, sym, ap, ◌∙◌}
use mathlib.Core.Bool.{Bool, true, false, cond, ◌&&◌, ◌||◌}
use Prim.Native.Nat.{ℕ, max}
use Rattle.std.proofs.Math.Nat.{le-max_left, zero-max}
use native.Mathlib.Omega.{arith}
use lib.Dec.{eqb, ltb, leb}
use borrow.Author.Tests.{eqb-true, eqb-false, ne_eqb, le-leb, lt-leb}
use Rattle.packet.specs.Packet.{part_bytes_of}
use Rattle.places.specs.Places.{held, entry_good}
use Rattle.places.specs.declared.Place.{Place}

pub entry_limit : (p : Place) (k : ℕ) → entry_good p k ≡ leb (held p k) (cond (ltb k p.total) part_bytes_of 0)
entry_limit p k = go (eqb (held p k) 0) (ltb k p.total) refl
  where
    go : (x y : Bool) → eqb (held p k) 0 ≡ x → (x || (y && leb (held p k) part_bytes_of)) ≡ leb (held p k) (cond y part_bytes_of 0)
    go true y e = let z = eqb-true (held p k) 0 e in sym (le-leb (held p k) (cond y part_bytes_of 0) (omega (arith, z)))
    go false true e = refl
    go false false e = let d = eqb-false (held p k) 0 e in sym (lt-leb (held p k) 0 (omega (arith, d)))

pub none_greater : (x y : ℕ) → eqb (max x y) 0 ≡ (eqb x 0 && eqb y 0)
none_greater x y = go (eqb x 0) refl
  where
    go : (z : Bool) → eqb x 0 ≡ z → eqb (max x y) 0 ≡ (z && eqb y 0)
    go true e = ap (λ n. eqb (max n y) 0) (eqb-true x 0 e) ∙ ap (λ n. eqb n 0) (zero-max y)
    go false e = let d = eqb-false x 0 e in let l = le-max_left x y in ne_eqb (max x y) 0 (λ q. omega (arith, d, l, q))
