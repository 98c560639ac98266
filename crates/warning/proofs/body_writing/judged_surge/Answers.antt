-- `judged_surge` judges the body's values in bit order: one step a field. Printed by tools/bodies.
use lib.Dec.{lit<}
use Rattle.walk.specs.Laws.Judging.{judge_num, judge_fixed}
use Rattle.warning.proofs.body_writing.judged_surge.Goals as goal

pub returns : goal.returns
returns c =
    record {
      on = λ e.
          let r1 = judge_num 9 (lit< tt) 0 511 (lit< tt) e c.value-w.ensures in
          let r2 = judge_num 9 (lit< tt) 0 511 (lit< tt) r1 c.value-w-2.ensures in
          let r3 = judge_num 10 (lit< tt) 0 1_023 (lit< tt) r2 c.value-w-3.ensures in
          let r4 = judge_num 13 (lit< tt) 0 8_191 (lit< tt) r3 c.value-w-4.ensures in
          judge_fixed 9 4 0 (lit< tt) (lit< tt) r4 c.fixed.ensures;
    }
