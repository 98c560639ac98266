-- `count_missing` meets its contract: of the sizes below the total it counts those that are 0.
use mathlib.Core.Path.{◌≡◌, ◌∙◌}
use mathlib.Core.Bool.{cond}
use Prim.Native.Nat.{ℕ, ◌≤◌, ◌<◌}
use native.Mathlib.Omega.{arith}
use borrow.Author.Rules.{rules}
use lib.Dec.{eqb}
use lib.ListN.{length, take}
use Rattle.std.specs.List.{sum_by}
use Rattle.places.specs.Laws.Listed.{missing_few}
use Rattle.desk.proofs.Counted.{missing_counted}
use Rattle.desk.proofs.asking.joining.count_missing.Goals as goal

pub sum-requires-clause-fits : goal.sum-requires-clause-fits
sum-requires-clause-fits c =
    let p = c.args.p in
    let long : p.total ≤ length p.sizes = search rules in
    let fits : sum_by (λ (n : ℕ). cond (eqb n 0) 1 0) (take p.total p.sizes) < 18446744073709551616 = omega (arith, missing_counted p p.total long, missing_few p.total p, c.requires.few) in
    search (rules, fits)

pub returns : goal.returns
returns c =
    let p = c.args.p in
    let counted : c.sum.result ≡ sum_by (λ n. cond (eqb n 0) 1 0) (take p.total p.sizes) = search rules in
    counted ∙ missing_counted p p.total (search rules)
