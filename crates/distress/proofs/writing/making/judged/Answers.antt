-- `judged` walks the record's values in bit order: each step is a law of judging.
use mathlib.Core.Path.{refl}
use lib.Dec.{lit<}
use Rattle.walk.specs.Laws.Judging.{judge_start, judge_fixed, judge_num, judge_signed, judge_end}
use Rattle.distress.specs.Report.{report}
use Rattle.distress.specs.Values.{list_of}
use Rattle.distress.proofs.writing.making.judged.Goals as goal

pub returns : goal.returns
unfolding report list_of
returns c =
    let a = c.args in
    let r0 = judge_start report 0 0 (list_of a.v) c.begin-w.ensures in
    let r1 = judge_fixed 16 1 0xBDC1 (lit< tt) (lit< tt) r0 c.fixed-w.ensures in
    let r2 = judge_num 32 (lit< tt) 0 999_999_999 (lit< tt) r1 c.value-w.ensures in
    let r3 = judge_signed 25 (lit< tt) 10_800_000 10_860_000 33_554_432 refl r2 c.signed_value-w.ensures in
    let r4 = judge_signed 24 (lit< tt) 5_400_000 5_460_000 16_777_216 refl r3 c.signed_value-w-2.ensures in
    let r5 = judge_num 5 (lit< tt) 0 31 (lit< tt) r4 c.value-w-2.ensures in
    let r6 = judge_num 5 (lit< tt) 0 24 (lit< tt) r5 c.value-w-3.ensures in
    let r7 = judge_num 6 (lit< tt) 0 60 (lit< tt) r6 c.value-w-4.ensures in
    let r8 = judge_num 7 (lit< tt) 0 126 (lit< tt) r7 c.value-w-5.ensures in
    let r9 = judge_num 9 (lit< tt) 0 360 (lit< tt) r8 c.value-w-6.ensures in
    let r10 = judge_num 4 (lit< tt) 0 9 (lit< tt) r9 c.value-w-7.ensures in
    judge_end (judge_fixed 3 4 0 (lit< tt) (lit< tt) r10 c.fixed.ensures)
