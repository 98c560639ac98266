-- `four::apart` meets its contract: no place below the present one clashes with one below it.
use mathlib.Core.Path.{◌≡◌}
use mathlib.Core.Bool.{true, not}
use Rattle.places.specs.Places.{every_below, clash, place_at}
use Rattle.places.proofs.four.apart.Given as goal

abbrev pub invariant-loop-i : goal.invariant-loop-i
invariant-loop-i l = every_below l.i (λ i. every_below i (λ j. not (clash (place_at l.places j) (place_at l.places i)))) ≡ true

abbrev pub invariant-loop-q : goal.invariant-loop-q
invariant-loop-q l = every_below l.q-index (λ j. not (clash (place_at l.places j) l.p)) ≡ true
