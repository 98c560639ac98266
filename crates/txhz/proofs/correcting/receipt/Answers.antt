-- `receipt` goes by its tests: nothing in front of the receipts, the rule for a byte of theirs, and nothing behind them.
use mathlib.Core.Path.{refl, ◌∙◌}
use borrow.Author.Tests.{lt-ltb, le-ltb}
use lib.Dec.{lit≤}
use lib.ListN.{get_or-eq_default}
use Rattle.format.specs.Fmt.{none}
use Rattle.txhz.specs.Changed.{spots}
use Rattle.txhz.specs.Laws.Correction.{byte_at}
use Rattle.txhz.proofs.correcting.receipt.Goals as goal

pub returns-then-field-lt-FIRST_RECEIPT : goal.returns-then-field-lt-FIRST_RECEIPT
returns-then-field-lt-FIRST_RECEIPT c = (rw (lt-ltb _ 6 c.if-field-lt-FIRST_RECEIPT.true) refl, lit≤ tt)

pub returns-then-field-count : goal.returns-then-field-count
returns-then-field-count c =
    let a = c.args in
    let past = c.if-field-lt-FIRST_RECEIPT.false in
    (rw (le-ltb a.field 6 past) (byte_at a.count a.field past c.if-field.true ∙ rw (lt-ltb _ _ c.if-field-count.true) refl), lit≤ tt)

pub returns-else-field-count : goal.returns-else-field-count
returns-else-field-count c =
    let a = c.args in
    let past = c.if-field-lt-FIRST_RECEIPT.false in
    (rw (le-ltb a.field 6 past) (byte_at a.count a.field past c.if-field.true ∙ rw (le-ltb _ _ c.if-field-count.false) refl), lit≤ tt)

pub returns-else-field : goal.returns-else-field
returns-else-field c =
    let a = c.args in
    (rw (le-ltb a.field 6 c.if-field-lt-FIRST_RECEIPT.false) (get_or-eq_default (spots a.count) none {n = a.field} c.if-field.false), lit≤ tt)
