-- `list_missing` meets its contract: the missing numbers below k stand in front of the row.
use Prim.Native.Nat.{ℕ}
use mathlib.Core.List.{List, [], ◌∷◌, ◌++◌}
use mathlib.Core.Path.{refl, sym, ap, ap₂, ◌∙◌}
use native.Mathlib.Omega.{arith}
use lib.Seq.{get_or-take}
use lib.ListN.{length, drop, set, length-append}
use Rattle.places.specs.Desk.{missing_below}
use Rattle.places.specs.Laws.Listed.{missing_held, missing_lacking, missing_room, front_more}
use Rattle.desk.proofs.asking.joining.list_missing.Goals.{then-n-eq0, else-n-eq0}
use Rattle.desk.proofs.asking.joining.list_missing.Goals as goal

pub loop-k-init : goal.loop-k-init
unfolding missing_below
loop-k-init c = (refl, refl)

pub bounds-row-at : goal.bounds-row-at
bounds-row-at c =
    let p = c.args.p in
    let k = c.loop-k.k in
    let there = get_or-take p.total p.sizes k 0 (omega arith) in
    omega (arith, missing_room k p.total p (omega arith) (sym there ∙ c.if-n-eq0.true))

pub loop-k-preserved : goal.loop-k-preserved
loop-k-preserved c =
    let p = c.args.p in
    let k = c.loop-k.k in
    let w = c.args.row.now in
    let v = c.loop-k.invariant in
    let there = get_or-take p.total p.sizes k 0 (omega arith) in
    let ns = missing_below k p in
    let listed : List ℕ → List ℕ = λ ns. ns ++ drop (length ns) w in
    elim c.if-n-eq0.branch [
      | then-n-eq0 x ↦
          let e = missing_lacking k p (sym there ∙ x.if-n-eq0.true) in
          let room = missing_room k p.total p (omega arith) (sym there ∙ x.if-n-eq0.true) in (
            omega (arith, x.at-is, v.0, ap length e, length-append ns (k ∷ [])),
            x.row-is ∙ ap₂ (λ (r : List ℕ) (n : ℕ). set r n k) v.1 v.0 ∙ front_more ns w k (omega (arith, room, c.requires.1)) ∙ ap listed (sym e),
          )
      | else-n-eq0 x ↦
          let e = sym (missing_held k p (λ z. x.if-n-eq0.false (there ∙ z))) in
          (x.at-is ∙ v.0 ∙ ap length e, x.row-is ∙ v.1 ∙ ap listed e)
    ]
