-- `count_bytes` meets its contract: it is the sum of the sizes below the total.
use mathlib.Core.Path.{◌≡◌, ◌∙◌}
use Prim.Native.Nat.{ℕ, ◌≤◌, ◌<◌}
use native.Mathlib.Omega.{arith}
use borrow.Author.Rules.{rules}
use lib.ListN.{length, take}
use Rattle.std.specs.List.{sum_by}
use Rattle.places.specs.Laws.Joined.{held_most}
use Rattle.desk.proofs.Counted.{bytes_counted}
use Rattle.desk.proofs.asking.joining.count_bytes.Goals as goal

pub sum-requires-clause-fits : goal.sum-requires-clause-fits
sum-requires-clause-fits c =
    let p = c.args.p in
    let long : p.total ≤ length p.sizes = search rules in
    let fits : sum_by (λ (n : ℕ). n) (take p.total p.sizes) < 18446744073709551616 = omega (arith, bytes_counted p p.total long, held_most c.requires p.total c.requires.few, c.requires.few) in
    search (rules, fits)

pub returns : goal.returns
returns c =
    let p = c.args.p in
    let counted : c.sum.result ≡ sum_by (λ n. n) (take p.total p.sizes) = search rules in
    counted ∙ bytes_counted p p.total (search rules)
