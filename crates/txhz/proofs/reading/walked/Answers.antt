-- `walked` walks the frame as its layout stands: one step a field and one law a receipt, then the record is that of the values.
use Rattle.std.proofs.Common.{[], ◌∷◌, refl, sym, ap, ◌∙◌, arith}
use lib.Dec.{lit<, lit≤}
use Rattle.bits.specs.Answers.{got}
use Rattle.bits.specs.Bits.{bits_of}
use Rattle.frame.specs.Laws.Head.{head_read}
use Rattle.format.specs.Fmt.{check, also, read}
use Rattle.format.specs.Message.{fault}
use Rattle.format.specs.Promises.{plain, refused_by}
use Rattle.format.specs.Laws.Lead.{exact_fields, other_size}
use Rattle.format.specs.Laws.Outcomes.{walk_exit, walk_passed}
use Rattle.walk.specs.Walk.{seen}
use Rattle.walk.specs.Laws.Reading.{step_num}
use Rattle.walk.specs.Laws.Walked.{Walked, finish}
use Rattle.txhz.specs.Txhz.{letters, txhz, times, record_of}
use Rattle.txhz.specs.Laws.Receipts.{receipt_read_lem}
use Rattle.txhz.proofs.reading.walked.Goals.{After-end-w}
use Rattle.txhz.proofs.reading.walked.Goals as goal

pub returns-then-s-ne-SEALED : goal.returns-then-s-ne-SEALED
returns-then-s-ne-SEALED c = ap refused_by c.into.ensures ∙ sym (ap (λ o. plain (also record_of o)) (other_size txhz 34 34 c.args.s.now (λ l u. c.if-s-ne-SEALED.true (omega (arith, l, u)))))

-- the whole walk, with the record's values
all_walked : (c : After-end-w) → let s = c.args.s.now in
    Walked (check (fault 0) 0 (read txhz [] 0 (bits_of s))) txhz 0
    (0x24 ∷ letters ∷ got s 40 16 ∷ c.head-w.result.v ∷ c.num-w.result.v ∷ c.num-w-2.result.v
    ∷ times c.read_receipt-passed.result.receipt (times c.read_receipt-passed-2.result.receipt (times c.read_receipt-passed-3.result.receipt (times c.read_receipt-passed-4.result.receipt (times c.read_receipt-passed-5.result.receipt [])))))
    (seen c.end-w.result)
unfolding txhz
all_walked c =
    let s = c.args.s.now in
    let r0 = head_read letters 35 35 _ s c.head-w.ensures.0 in
    let r1 = step_num 24 (lit< tt) (lit≤ tt) (lit< tt) 0 2_097_151 r0 c.num-w.ensures.0 in
    let r2 = step_num 8 (lit< tt) (lit≤ tt) (lit< tt) 0 5 r1 c.num-w-2.ensures.0 in
    let r3 = receipt_read_lem 0 _ (lit< tt) refl refl r2 c.read_receipt-passed.ensures in
    let r4 = receipt_read_lem 1 _ (lit< tt) refl refl r3 c.read_receipt-passed-2.ensures in
    let r5 = receipt_read_lem 2 _ (lit< tt) refl refl r4 c.read_receipt-passed-3.ensures in
    let r6 = receipt_read_lem 3 _ (lit< tt) refl refl r5 c.read_receipt-passed-4.ensures in
    let r7 = receipt_read_lem 4 _ (lit< tt) refl refl r6 c.read_receipt-passed-5.ensures in
    finish (lit< tt) r7 c.end-w.ensures

pub returns-in_err-passed : goal.returns-in_err-passed
returns-in_err-passed c =
    let w = all_walked (goal.at.returns-in_err-passed c).After-end-w in
    walk_exit record_of _ _ _ _ c.from_residual.result _ c.from_residual.ensures.1 c.in_err-passed.ensures w.so ∙ sym (ap (λ o. plain (also record_of o)) (exact_fields txhz 34 c.args.s.now c.if-s-ne-SEALED.false))

pub returns : goal.returns
unfolding record_of
returns c =
    let w = all_walked (goal.at.returns c).After-end-w in
    walk_passed record_of _ _ _ _ c.in_ok-passed.ensures w.so ∙ sym (ap (λ o. plain (also record_of o)) (exact_fields txhz 34 c.args.s.now c.if-s-ne-SEALED.false))
