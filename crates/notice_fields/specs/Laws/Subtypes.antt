-- A type's subtypes lie between two limits, which have at most 4 bits: the test of a subtype is that of a range. Assumes nothing.
use Rattle.std.specs.Prelude.{◌≡◌, refl, Bool, true, false, cond, ◌||◌, List, ◌∷◌, ℕ, ◌<◌, ◌^◌, eqb}
use Rattle.std.proofs.Common.{lit<}
use Rattle.format.specs.Words.{◌‥◌}
use Rattle.notice_fields.specs.Parts.{subtypes, subtype}
use Rattle.notice_fields.specs.PartsSteps.{least_subtype, most_subtype}

pub subtype_limits : (t : ℕ) (h : List ℕ) (v : ℕ) → subtype subtypes (t ∷ h) v ≡ (least_subtype t ‥ most_subtype t) (t ∷ h) v
unfolding subtype subtypes least_subtype most_subtype
subtype_limits t h v = go (eqb t 1) (eqb t 4 || eqb t 6) (eqb t 5)
  where
    most : Bool → Bool → Bool → ℕ
    most x y z = cond x 10 (cond y 13 (cond z 8 0))

    go : (x y z : Bool)
        → cond x (1 ‥ 10) (cond y (1 ‥ 13) (cond z (1 ‥ 8) (0 ‥ 0))) h v ≡ (cond (eqb (most x y z) 0) 0 1 ‥ most x y z) h v
    go true y z = refl
    go false true z = refl
    go false false true = refl
    go false false false = refl

pub most_subtype_fits : (t : ℕ) → most_subtype t < 2 ^ 4
unfolding most_subtype
most_subtype_fits t = go (eqb t 1) (eqb t 4 || eqb t 6) (eqb t 5)
  where
    go : (x y z : Bool) → cond x 10 (cond y 13 (cond z 8 0)) < 2 ^ 4
    go true y z = lit< tt
    go false true z = lit< tt
    go false false true = lit< tt
    go false false false = lit< tt
