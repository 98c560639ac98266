-- `judged` judges the values in bit order: one step a field, and one law for the body.
use mathlib.Core.Path.{◌≡◌, refl}
use mathlib.Core.Bool.{false, cond, ◌&&◌}
use Prim.Native.Nat.{ℕ}
use native.Mathlib.Omega.{arith}
use lib.Dec.{leb, lit<}
use Rattle.warning.specs.Bodies.{Kind, cyclone, gale, waves, fog, surge, type_of, body_kind}
use Rattle.warning.specs.Laws.Walking.{type_small}
use Rattle.format.specs.Words.{◌‥◌}
use Rattle.format.specs.Laws.Extent.{opens_choice}
use Rattle.format.specs.Laws.Tells.{only_tells}
use Rattle.walk.specs.Laws.Judging.{judge_start, judge_fixed, judge_num, judge_tells, judge_end}
use Rattle.ais_common.specs.Laws.Walking.{time_judged_lem}
use Rattle.warning.specs.Warning.{warning, values_as}
use Rattle.warning.proofs.writing.making.judged.Goals as goal

pub overflow_cast-kind : goal.overflow_cast-kind
overflow_cast-kind c =
    omega (arith, c.kind-kind.ensures, type_small (body_kind c.args.r.body))

-- every kind has a type that may be
typed : (t : Kind) → ◌≡◌ {A = ℕ} 0 (cond (leb 1 (type_of t) && leb (type_of t) 5) 0 2)
typed cyclone = refl
typed gale = refl
typed waves = refl
typed fog = refl
typed surge = refl

pub returns : goal.returns
unfolding warning values_as
returns c =
    let a = c.args in
    let r = a.r in
    let w = r.body in
    let r0 = judge_start warning 0 0 (values_as r a.time) c.begin.ensures in
    let r1 = judge_fixed 6 1 8 (lit< tt) (lit< tt) r0 c.fixed-w.ensures in
    let r2 = judge_num 2 (lit< tt) 0 3 (lit< tt) r1 c.value-w.ensures in
    let r3 = judge_num 30 (lit< tt) 0 999_999_999 (lit< tt) r2 c.value-w-2.ensures in
    let r4 = judge_fixed 2 4 0 (lit< tt) (lit< tt) r3 c.fixed.ensures in
    let r5 = judge_fixed 10 1 412 (lit< tt) (lit< tt) r4 c.fixed-2.ensures in
    let r6 = judge_fixed 6 1 3 (lit< tt) (lit< tt) r5 c.fixed-w-2.ensures in
    let r7 = judge_tells 4 false _ 0 (lit< tt) (omega (arith, type_small (body_kind w))) (only_tells 4 1 (1 ‥ 5) _) (typed (body_kind w)) opens_choice r6 c.fixed-w-3.ensures in
    let r8 = judge_num 23 (lit< tt) 0 7_200_000 (lit< tt) r7 c.value-w-3.ensures in
    let r9 = judge_num 23 (lit< tt) 0 7_200_000 (lit< tt) r8 c.value-w-4.ensures in
    let r10 = c.judged-w.ensures.on r9 in
    let r11 = time_judged_lem (lit< tt) r10 c.judged-w-2.ensures in
    let r12 = judge_num 6 (lit< tt) 0 48 (lit< tt) r11 c.value.ensures in
    judge_end (judge_fixed 2 4 0 (lit< tt) (lit< tt) r12 c.fixed-3.ensures)
