-- `judged` walks the values in bit order: each step is a law of judging, the shape one law.
use mathlib.Core.Path.{ap, ◌∙◌}
use mathlib.Core.Bool.{false}
use Prim.Native.Nat.{◌<◌}
use native.Mathlib.Omega.{arith}
use lib.Dec.{lit<}
use Rattle.walk.specs.Walk.{seen}
use Rattle.walk.specs.Walk.{onward}
use Rattle.walk.specs.Laws.Judging.{judge_start, judge_fixed, judge_num, judge_end}
use Rattle.ais_common.specs.Laws.Walking.{time_judged_lem, short_judged_lem}
use Rattle.area.specs.Area.{area, values_as}
use Rattle.area.specs.Shapes.{shape_kind}
use Rattle.area.specs.Laws.Walking.{kind_judged}
use Rattle.area.proofs.writing.making.judged.Goals as goal

pub overflow_cast-kind : goal.overflow_cast-kind
overflow_cast-kind c =
    let n : c.kind-kind.result < 256 = c.kind-kind.type_inv in
    record { fits = omega (arith, n) }

pub overflow_cast-r-7 : goal.overflow_cast-r-7
overflow_cast-r-7 c = record { fits = omega (arith, c.struct_known-7-1.given.1.1.1.1.1.1.1.1.1.0.fits) }

pub returns : goal.returns
unfolding area values_as
returns c =
    let a = c.args in
    let r0 = judge_start area 0 0 (values_as a.r a.time a.second) c.begin.ensures in
    let r1 = judge_fixed 6 1 6 (lit< tt) (lit< tt) r0 c.fixed-w.ensures in
    let r2 = judge_num 2 (lit< tt) 0 3 (lit< tt) r1 c.value-w.ensures in
    let r3 = judge_num 30 (lit< tt) 0 999_999_999 (lit< tt) r2 c.value-w-2.ensures in
    let r4 = judge_num 2 (lit< tt) 0 3 (lit< tt) r3 c.value-w-3.ensures in
    let r5 = judge_num 30 (lit< tt) 0 999_999_999 (lit< tt) r4 c.value-w-4.ensures in
    let r6 = judge_num 1 (lit< tt) 0 1 (lit< tt) r5 c.value-w-5.ensures in
    let r7 = judge_fixed 1 4 0 (lit< tt) (lit< tt) r6 c.fixed.ensures in
    let r8 = judge_fixed 10 1 412 (lit< tt) (lit< tt) r7 c.fixed-2.ensures in
    let r9 = judge_fixed 6 1 11 (lit< tt) (lit< tt) r8 c.fixed-w-2.ensures in
    let r10 = judge_num 4 (lit< tt) 1 14 (lit< tt) r9 c.value-w-6.ensures in
    let r11 = kind_judged (shape_kind a.r.shape) r10 (c.fixed-w-3.ensures ∙ ap (λ v. onward 2 false v 0 0 (seen c.value-w-6.result)) c.kind-kind.ensures) in
    let r12 = c.judged-w.ensures.on r11 in
    let r13 = time_judged_lem (lit< tt) r12 c.judged-w-2.ensures in
    let r14 = short_judged_lem (lit< tt) r13 c.judged_short-w.ensures in
    let r15 = judge_num 4 (lit< tt) 1 6 (lit< tt) r14 c.value.ensures in
    judge_end (judge_fixed 6 4 0 (lit< tt) (lit< tt) r15 c.fixed-3.ensures)
