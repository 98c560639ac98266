-- `judged` walks the values in bit order: each step is a law of judging, each receipt one law.
use mathlib.Core.Path.{refl}
use mathlib.Core.List.{[], ◌∷◌}
use lib.Dec.{lit<, lit≤}
use Rattle.frame.specs.Laws.Head.{head_judged_lem}
use Rattle.walk.specs.Laws.Judging.{judge_num, judge_end}
use Rattle.txhz.specs.Txhz.{letters, txhz, times, values_of}
use Rattle.txhz.specs.Laws.Receipts.{receipt_judged_lem}
use Rattle.txhz.proofs.writing.judged.Goals as goal

pub returns : goal.returns
unfolding txhz values_of
returns c =
    let a = c.args in
    let r = a.r in
    let tail = times r.first (times r.second (times r.third (times r.fourth (times r.fifth [])))) in
    let r0 = head_judged_lem letters 35 35 _ 35 r.address (r.receiver ∷ r.count ∷ tail) (lit< tt) (lit≤ tt) (lit≤ tt) (lit< tt) c.judged-w.ensures in
    let r1 = judge_num 24 (lit< tt) 0 2_097_151 (lit< tt) r0 c.value-w.ensures in
    let r2 = judge_num 8 (lit< tt) 0 5 (lit< tt) r1 c.value-w-2.ensures in
    let k0 = c.struct_known-1.given.1.1.1 in
    let k1 = k0.1 in
    let k2 = k1.1 in
    let k3 = k2.1 in
    let k4 = k3.1 in
    let r3 = receipt_judged_lem 0 _ r.first (k0.0.0.fits, k0.0.1.0.fits, k0.0.1.1.0.fits, k0.0.1.1.1.0.fits) (lit< tt) refl r2 c.judge_receipt-w.ensures in
    let r4 = receipt_judged_lem 1 _ r.second (k1.0.0.fits, k1.0.1.0.fits, k1.0.1.1.0.fits, k1.0.1.1.1.0.fits) (lit< tt) refl r3 c.judge_receipt-w-2.ensures in
    let r5 = receipt_judged_lem 2 _ r.third (k2.0.0.fits, k2.0.1.0.fits, k2.0.1.1.0.fits, k2.0.1.1.1.0.fits) (lit< tt) refl r4 c.judge_receipt-w-3.ensures in
    let r6 = receipt_judged_lem 3 _ r.fourth (k3.0.0.fits, k3.0.1.0.fits, k3.0.1.1.0.fits, k3.0.1.1.1.0.fits) (lit< tt) refl r5 c.judge_receipt-w-4.ensures in
    judge_end (receipt_judged_lem 4 _ r.fifth (k4.0.0.fits, k4.0.1.0.fits, k4.0.1.1.0.fits, k4.0.1.1.1.0.fits) (lit< tt) refl r6 c.judge_receipt.ensures)
