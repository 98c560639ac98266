-- Views keep all: walks of the code that the definitions see alike are equal, and so are steps along a row and numbers made of parts. Shown part by part. Assumes nothing.
use Rattle.std.specs.Prelude.{◌≡◌, ℕ, Option, Some, None, is_some}
use Rattle.std.proofs.Common.{refl, ap}
use Rattle.format.specs.Laws.Outcomes.{one_told, one_code}
use Rattle.walk.specs.declared.walk.Spot.{Spot}
use Rattle.walk.specs.declared.walk.Walk.{Walk as DeclaredWalk}
use Rattle.walk.specs.declared.making.Stepped.{Stepped as DeclaredStepped}
use Rattle.walk.specs.declared.pieces.Pieces.{Pieces as DeclaredPieces}
use Rattle.walk.specs.Pieces.{parts}
use Rattle.walk.specs.Walk.{left_of, at_of, width_of, seen, stepped}

one_sought : (x y : Option ℕ) → is_some x ≡ is_some y → left_of x ≡ left_of y → x ≡ y
one_sought None None e left = refl
one_sought None (Some b) e left = absurd cc
one_sought (Some a) None e left = absurd cc
one_sought (Some a) (Some b) e left = ap Some left

one_spot : (x y : Option Spot) → is_some x ≡ is_some y → at_of x ≡ at_of y → width_of x ≡ width_of y → x ≡ y
one_spot None None e at width = refl
one_spot None (Some b) e at width = absurd cc
one_spot (Some a) None e at width = absurd cc
one_spot (Some a) (Some b) e at width = λ i. Some (record { at = at i; width = width i })

pub one_seen : (w w' : DeclaredWalk) → seen w ≡ seen w' → w ≡ w'
one_seen w w' e =
    let verdict = one_told w.verdict w'.verdict (λ i. record { code = (e i).code; bit = (e i).offset }) in
    let sought = one_sought w.sought w'.sought (λ i. (e i).seek) (λ i. (e i).left) in
    let spot = one_spot w.spot w'.spot (λ i. (e i).found) (λ i. (e i).spot) (λ i. (e i).width) in
    λ i. record { at = (e i).at; verdict = verdict i; v = (e i).v; sought = sought i; spot = spot i }

pub one_stepped : (x y : DeclaredStepped) → stepped x ≡ stepped y → x ≡ y
one_stepped x y e =
    let walk = one_seen x.walk y.walk (λ i. (e i).walk) in
    λ i. record { walk = walk i; next = (e i).next }

pub one_parts : (g g' : DeclaredPieces) → parts g ≡ parts g' → g ≡ g'
one_parts g g' e =
    let verdict = one_code g.verdict g'.verdict (λ i. (e i).code) in
    λ i. record { v = (e i).v; width = (e i).width; left = (e i).left; verdict = verdict i; into = (e i).into }
