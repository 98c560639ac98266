-- `write` is the frame's `write` of the record of its numbers and receipts.
use mathlib.Core.Path.{refl}
use lib.ListN.{length}
use borrow.Author.Tests.{eq-eqb, ne_eqb}
use Rattle.c_rows.proofs.txhzs.write.Goals as goal

pub returns-then-receipts-ne-RECEIPTS : goal.returns-then-receipts-ne-RECEIPTS
returns-then-receipts-ne-RECEIPTS c = let b = c.args.receipts.now in rw (ne_eqb (length b) 20 c.if-receipts-ne-RECEIPTS.true) (c.into.ensures, refl)

pub returns : goal.returns
returns c =
    let a = c.args in
    let b = a.receipts.now in
    rw (eq-eqb (length b) 20 c.if-receipts-ne-RECEIPTS.false) (rw (c.receipt.ensures, c.receipt-2.ensures, c.receipt-3.ensures, c.receipt-4.ensures, c.receipt-5.ensures) at c.write.ensures)
