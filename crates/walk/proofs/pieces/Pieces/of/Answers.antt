-- `of`: a number is too wide where something stands above its bits.
use Rattle.std.proofs.Common.{◌≡◌, ℕ, ◌/◌, ◌^◌, Bool, true, false, cond, ◌&&◌, ltb, leb, refl, ap, ◌∙◌, arith, ltb-false, ltb-true}
use mathlib.Core.Bool.{and-false}
use native.Mathlib.Nat.{div-eq_of_lt}
use borrow.Author.Tests.{lt-leb}
use Rattle.bits.specs.Laws.Digits.{small}
use Rattle.walk.proofs.pieces.Pieces.of.Goals as goal

too_wide : (v w : ℕ) → ◌≡◌ {A = ℕ} (cond (leb 0 (v / 2 ^ w) && leb (v / 2 ^ w) 0) 0 4) (cond (ltb v (2 ^ w)) 0 4)
too_wide v w = go (ltb v (2 ^ w)) refl
  where
    go : (t : Bool) → ltb v (2 ^ w) ≡ t → ◌≡◌ {A = ℕ} (cond (leb 0 (v / 2 ^ w) && leb (v / 2 ^ w) 0) 0 4) (cond t 0 4)
    go true e = rw (div-eq_of_lt (ltb-true v (2 ^ w) e)) refl
    go false e =
        let l = ltb-false v (2 ^ w) e in
        let n : v / 2 ^ w ≡ 0 → ⊥ = λ z. omega (arith, small v w z) in
        rw (lt-leb (v / 2 ^ w) 0 (omega arith), and-false) refl

pub returns : goal.returns
returns c =
    let a = c.args in
    let e = c.inside.ensures ∙ ap (λ x. cond (leb 0 x && leb x 0) 0 4) c.above.ensures ∙ too_wide a.v a.w in
    λ i. record { v = a.v; width = a.w; left = a.w; code = e i; into = 0 }
