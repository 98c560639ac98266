-- `stands` has an arm for each name in front of the receipts; any other number is a receipt's, or finds nothing.
use mathlib.Core.Path.{ap, ◌∙◌}
use lib.Dec.{lit≤}
use lib.ListN.{get_or}
use Rattle.format.specs.Fmt.{none}
use Rattle.txhz.specs.Changed.{spots}
use Rattle.txhz.specs.Laws.Correction.{behind}
use Rattle.txhz.proofs.correcting.stands.Goals as goal

pub returns-in-3 : goal.returns-in-3
returns-in-3 c = (ap (λ i. get_or (spots c.args.count) i none) c.in-3.is, lit≤ tt)

pub returns-in-4 : goal.returns-in-4
returns-in-4 c = (ap (λ i. get_or (spots c.args.count) i none) c.in-4.is, lit≤ tt)

pub returns-in-5 : goal.returns-in-5
returns-in-5 c = (ap (λ i. get_or (spots c.args.count) i none) c.in-5.is, lit≤ tt)

pub returns-in_default : goal.returns-in_default
returns-in_default c =
    let a = c.args in
    let other = c.in_default.in_default-own.rest in
    let (there, slim) = c.receipt.ensures in
    (behind a.count a.field other.0.0.1 other.0.1 other.1 ∙ there, slim)
