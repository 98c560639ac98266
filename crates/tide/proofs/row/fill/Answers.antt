-- `fill` measures the records, and stores their numbers where the row has room for them.
use mathlib.Core.Path.{refl, ap, ◌∙◌}
use native.Mathlib.Omega.{arith}
use lib.ListN.{length}
use borrow.Author.Tests.{le-leb, lt-leb}
use Rattle.tide.specs.Standing.{front, records_at}
use Rattle.tide.specs.declared.row.Extent.{Extent}
use Rattle.tide.specs.Laws.Shapes.{numbers_in_lem}
use Rattle.tide.proofs.row.fill.Goals as goal

pub returns-then-row-numbers : goal.returns-then-row-numbers
returns-then-row-numbers c =
    let a = c.args in
    let xs = records_at a.s.now a.count front in
    let n = ap (λ (e : Extent). e.numbers) c.measure-extent.ensures ∙ numbers_in_lem a.s.now a.count front in
    (n, rw (lt-leb (length xs) (length a.row.now) (omega (arith, n, c.if-row-numbers.true))) refl)

pub store-requires : goal.store-requires
store-requires c =
    let a = c.args in
    let xs = records_at a.s.now a.count front in
    let n = ap (λ (e : Extent). e.numbers) c.measure-extent.ensures ∙ numbers_in_lem a.s.now a.count front in
    omega (arith, n, c.if-row-numbers.false)

pub returns : goal.returns
returns c =
    let a = c.args in
    let xs = records_at a.s.now a.count front in
    let n = ap (λ (e : Extent). e.numbers) c.measure-extent.ensures ∙ numbers_in_lem a.s.now a.count front in
    (n, c.store.ensures ∙ rw (le-leb (length xs) (length a.row.now) (omega (arith, n, c.if-row-numbers.false))) refl)
