-- What a row's entry reads: a number that fits 64 signed bits is stored as it is. Assumes nothing.
use Rattle.std.specs.Prelude.{◌≡◌, ℕ, ◌^◌, ◌<◌, ℤ, pos, T, leb}
use Rattle.std.proofs.Common.{sym, ap, subst, ◌∙◌, to_z-of_z}
use Rattle.std.specs.Int.{Width, w64}
use mir.Val.{hbits, SFits, to_z, of_z}
use Rattle.std.proofs.Math.Facts.{sfits_widen, to_z_pos}

-- a number without a sign
pub entry : (n : ℕ) → n < 2 ^ 63 → to_z w64 n ≡ pos n
entry n h = to_z_pos w64 h

-- a signed number of a narrower type, widened
module _ {w : Width} {z : ℤ} (narrower : T (leb (hbits w) (hbits w64))) (fits : SFits w z) where
  pub widens : SFits w64 (to_z w (of_z w z))
  widens = subst (SFits w64) (sym (to_z-of_z fits)) (sfits_widen narrower fits)

  pub widened : to_z w64 (of_z w64 (to_z w (of_z w z))) ≡ z
  widened = ap (λ (y : ℤ). to_z w64 (of_z w64 y)) (to_z-of_z fits) ∙ to_z-of_z {w = w64} (sfits_widen narrower fits)
