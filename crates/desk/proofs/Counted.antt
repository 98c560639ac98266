-- The sizes of the packets below a number, counted: how many are 0, and their sum. Assumes nothing.
use mathlib.Core.Path.{◌≡◌, refl, sym, ap, ap₂, ◌∙◌}
use mathlib.Core.Bool.{Bool, true, false, cond}
use mathlib.Core.List.{[], ◌∷◌}
use Prim.Native.Nat.{ℕ, zero, suc, ◌+◌, ◌≤◌}
use native.Mathlib.Omega.{arith}
use lib.Dec.{eqb}
use lib.ListN.{length, length-append, take}
use Rattle.std.specs.List.{sum_by}
use Rattle.std.proofs.Common.{add-one}
use Rattle.std.proofs.lemmas.List.Sums.{sum_by_more}
use Rattle.places.specs.Desk.{missing_below}
use Rattle.places.specs.Places.{held, lacks}
use Rattle.places.specs.Laws.Joined.{held_below}
use Rattle.places.specs.declared.Place.{Place}

module _ (p : Place) where
  next : (f : ℕ → ℕ) (n : ℕ) → suc n ≤ length p.sizes → sum_by f (take (suc n) p.sizes) ≡ sum_by f (take n p.sizes) + f (held p n)
  next f n l = ap (λ m. sum_by f (take m p.sizes)) (sym (add-one n)) ∙ sum_by_more f p.sizes n 0 (omega arith)

  pub missing_counted : (n : ℕ) → n ≤ length p.sizes → sum_by (λ x. cond (eqb x 0) 1 0) (take n p.sizes) ≡ length (missing_below n p)
  unfolding missing_below
  missing_counted zero l = refl
  missing_counted (suc n) l =
      next (λ x. cond (eqb x 0) 1 0) n l ∙ ap₂ (◌+◌) (missing_counted n (omega arith)) (one (lacks p n))
      ∙ sym (length-append (missing_below n p) (cond (lacks p n) (n ∷ []) []))
    where
      one : (b : Bool) → cond b 1 0 ≡ length (cond b (n ∷ []) [])
      one true = refl
      one false = refl

  pub bytes_counted : (n : ℕ) → n ≤ length p.sizes → sum_by (λ x. x) (take n p.sizes) ≡ held_below n p
  unfolding held_below
  bytes_counted zero l = refl
  bytes_counted (suc n) l = next (λ x. x) n l ∙ ap (◌+ held p n) (bytes_counted n (omega arith))
