-- An angle's hundredths fit 32 signed bits, and so does their negative: what is computed and stored in them reads as it is. Assumes nothing.
use Rattle.std.specs.Prelude.{ℕ, zero, suc, ◌/◌, ◌%◌, ◌^◌, ◌<◌, ◌≡◌, refl, Bool, true, false, eqb, ℤ, pos, neg_ℤ, ◌-ℤ◌}
use Rattle.std.proofs.Common.{ap, ◌∙◌, arith, eq-eqb, ne_eqb, SFits, to_z, of_z}
use Rattle.std.proofs.Math.IntN.{+ℤ_idl}
use Rattle.std.specs.Int.{w32}
use Rattle.std.proofs.lemmas.Int.{to_z_pos, to_z-of_z}
use Rattle.outline.specs.Angles.{hundredths, turned, northing, easting}

neg_fits : (m : ℕ) → m < 2 ^ 31 → SFits w32 (neg_ℤ (pos m))
neg_fits zero h = record { sfits = omega arith }
neg_fits (suc m) h = record { sfits = omega arith }

turned_fits : (sign m : ℕ) → m < 2 ^ 31 → SFits w32 (turned sign m)
turned_fits sign m h = go (eqb sign 0) refl
  where
    go : (x : Bool) → eqb sign 0 ≡ x → SFits w32 (turned sign m)
    go true e = rw e (record { sfits = h })
    go false e = rw e (neg_fits m h)

-- of degrees in 8 bits
module _ (degrees v : ℕ) (few : degrees < 256) where
  abbrev m : ℕ
  m = hundredths degrees v

  small : m < 2 ^ 31
  small = omega arith

  kept : to_z w32 (of_z w32 (pos m)) ≡ pos m
  kept = to_z_pos w32 m small

  minus : pos 0 -ℤ to_z w32 (of_z w32 (pos m)) ≡ neg_ℤ (pos m)
  minus = ap (λ (x : ℤ). pos 0 -ℤ x) kept ∙ +ℤ_idl (neg_ℤ (pos m))

  pub minus_fits : SFits w32 (pos 0 -ℤ to_z w32 (of_z w32 (pos m)))
  minus_fits = rw minus (neg_fits m small)

  -- the two ways out
  pub angle_kept : {sign : ℕ} → sign ≡ 0 → to_z w32 (of_z w32 (pos m)) ≡ turned sign m
  angle_kept {sign} e = kept ∙ rw (eq-eqb sign 0 e) refl

  pub angle_turned : {sign : ℕ} → (sign ≡ 0 → ⊥) → to_z w32 (of_z w32 (pos 0 -ℤ to_z w32 (of_z w32 (pos m)))) ≡ turned sign m
  angle_turned {sign} n = to_z-of_z w32 (pos 0 -ℤ to_z w32 (of_z w32 (pos m))) minus_fits ∙ minus ∙ rw (ne_eqb sign 0 n) refl

  -- stored in a row
  pub angle_stored : {z : ℤ} (sign : ℕ) → z ≡ turned sign m → to_z w32 (of_z w32 z) ≡ turned sign m
  angle_stored sign e = rw e (to_z-of_z w32 (turned sign m) (turned_fits sign m small))

pub latitude_stored : {z : ℤ} (v : ℕ) → z ≡ northing v → to_z w32 (of_z w32 z) ≡ northing v
latitude_stored v e = angle_stored (v / 8_192 % 128) v (omega arith) (v / 0x10_0000 % 2) e

pub longitude_stored : {z : ℤ} (v : ℕ) → z ≡ easting v → to_z w32 (of_z w32 z) ≡ easting v
longitude_stored v e = angle_stored (v / 8_192 % 256) v (omega arith) (v / 0x20_0000 % 2) e
