-- What is asked of the four places as a list: the first that passes, and whether all pass. Assumes nothing.
use mathlib.Core.Path.{◌≡◌, refl, sym, ap, ◌∙◌, subst}
use mathlib.Core.Bool.{Bool, true, false, not, cond, ◌&&◌}
use mathlib.Core.List.{List}
use Prim.Native.Nat.{ℕ, ◌+◌}
use lib.Dec.{ltb}
use lib.ListN.{length}
use Rattle.std.specs.List.{position, list_all}
use Rattle.std.specs.Prelude.{Some, None}
use Rattle.places.specs.Laws.Four.{good_four, open_four, free_four, front_is}
use Rattle.places.specs.Places.{passes, serves, four_places, place_at, front, all_apart, good_places, open_at, free_at, one_of_four}
use Rattle.places.specs.declared.Place.{Place}

all_four : (x y z u : Bool) → (x && (y && (z && (u && true)))) ≡ (((x && y) && z) && u)
all_four false y z u = refl
all_four true false z u = refl
all_four true true false u = refl
all_four true true true false = refl
all_four true true true true = refl

first_four : (x y z u : Bool) → let n : ℕ = cond (not x) (1 + cond (not y) (1 + cond (not z) (1 + cond (not u) 1 0) 0) 0) 0 in cond (ltb n 4) (Some n) None ≡ one_of_four (cond x 0 (cond y 1 (cond z 2 (cond u 3 4))))
first_four true y z u = refl
first_four false true z u = refl
first_four false false true u = refl
first_four false false false true = refl
first_four false false false false = refl

-- ---- the four places ps

module _ (ps : List Place) (e : length ps ≡ four_places) where
  abbrev at : ℕ → Place
  at = place_at ps

  pub good_listed : good_places ps ≡ (all_apart ps && list_all passes ps)
  good_listed =
      subst (λ ps. good_places ps ≡ (all_apart ps && list_all passes ps)) (front_is ps e)
      (good_four (at 0) (at 1) (at 2) (at 3) ∙ ap (all_apart (front ps) &&◌) (sym (all_four (passes (at 0)) (passes (at 1)) (passes (at 2)) (passes (at 3)))))

  pub open_listed : (n : ℕ) → position (λ p. serves p n) ps ≡ one_of_four (open_at ps n)
  open_listed n =
      subst (λ ps. position (λ p. serves p n) ps ≡ one_of_four (open_at ps n)) (front_is ps e)
      (first_four (serves (at 0) n) (serves (at 1) n) (serves (at 2) n) (serves (at 3) n) ∙ ap one_of_four (sym (open_four (at 0) (at 1) (at 2) (at 3) n)))

  pub free_listed : position (λ (p : Place). not p.«open») ps ≡ one_of_four (free_at ps)
  free_listed =
      subst (λ ps. position (λ (p : Place). not p.«open») ps ≡ one_of_four (free_at ps)) (front_is ps e)
      (first_four (not (at 0).«open») (not (at 1).«open») (not (at 2).«open») (not (at 3).«open») ∙ ap one_of_four (sym (free_four (at 0) (at 1) (at 2) (at 3))))
