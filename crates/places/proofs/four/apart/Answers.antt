-- `four::apart` meets its contract: no place below the present one clashes with one below it.
use mathlib.Core.Path.{◌≡◌, refl, sym, ap, ◌∙◌}
use mathlib.Core.Bool.{Bool, not}
use Prim.Native.Nat.{ℕ, ◌<◌}
use mathlib.Core.List.{List}
use native.Mathlib.Omega.{arith}
use lib.ListN.{get_or, take}
use lib.Seq.{get_or-take, length-take-le}
use Rattle.places.specs.Places.{every_below, clash, place_at, all_apart, four_places, blank}
use Rattle.places.specs.Laws.Below.{every_next, some_every}
use Rattle.places.specs.declared.Place.{Place}
use Rattle.places.proofs.four.apart.Goals as goal

pub loop-i-init : goal.loop-i-init
unfolding every_below
loop-i-init c = refl

pub loop-q-init : goal.loop-q-init
unfolding every_below
loop-q-init c = refl

-- what was told of the pair at hand
pair : (ps : List Place) (i j : ℕ) → j < i → (r : Bool) → r ≡ clash (get_or (take i ps) j blank) (get_or ps i blank) → not (clash (place_at ps j) (place_at ps i)) ≡ not r
pair ps i j l r e = ap not (ap (λ p. clash p (place_at ps i)) (sym (get_or-take i ps j blank l)) ∙ sym e)

pub returns-then-clashes : goal.returns-then-clashes
unfolding all_apart
returns-then-clashes c =
    let ps = c.args.places.now in
    let i = c.loop-i.i in
    let j = c.loop-q.q-index in
    let told = pair ps i j (omega arith) c.clashes.result c.clashes.ensures ∙ ap not c.if-clashes.true in
    sym (some_every four_places _ i (omega arith) (some_every i _ j (omega arith) told))

pub loop-q-preserved : goal.loop-q-preserved
loop-q-preserved c =
    let ps = c.args.places.now in
    let i = c.loop-i.i in
    let j = c.loop-q.q-index in
    let told = pair ps i j (omega arith) c.clashes.result c.clashes.ensures ∙ ap not c.if-clashes.false in
    every_next j _ ∙ rw (c.loop-q.invariant, told) refl

pub loop-i-preserved : goal.loop-i-preserved
loop-i-preserved c =
    let ps = c.args.places.now in
    let i = c.loop-i.i in
    let end : i ≡ c.loop-q.q-index = omega (arith, length-take-le i ps (omega (arith, c.told-places))) in
    every_next i _ ∙ rw (c.loop-i.invariant, ap (λ n. every_below n (λ j. not (clash (place_at ps j) (place_at ps i)))) end ∙ c.loop-q.invariant) refl

pub returns : goal.returns
unfolding all_apart
returns c =
    let ps = c.args.places.now in
    let end : four_places ≡ c.loop-i.i = omega arith in
    sym (ap (λ n. every_below n (λ i. every_below i (λ j. not (clash (place_at ps j) (place_at ps i))))) end ∙ c.loop-i.invariant)
