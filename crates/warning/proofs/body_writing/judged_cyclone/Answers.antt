-- `judged_cyclone` judges the body's values in bit order: one step a field. Printed by tools/bodies.
use lib.Dec.{lit<}
use Rattle.walk.specs.Laws.Judging.{judge_num}
use Rattle.warning.proofs.body_writing.judged_cyclone.Goals as goal

pub returns : goal.returns
returns c =
    record {
      on = λ e.
          let r1 = judge_num 3 (lit< tt) 1 4 (lit< tt) e c.value-w.ensures in
          let r2 = judge_num 9 (lit< tt) 0 511 (lit< tt) r1 c.value-w-2.ensures in
          let r3 = judge_num 9 (lit< tt) 0 511 (lit< tt) r2 c.value-w-3.ensures in
          let r4 = judge_num 6 (lit< tt) 0 63 (lit< tt) r3 c.value-w-4.ensures in
          let r5 = judge_num 9 (lit< tt) 0 511 (lit< tt) r4 c.value-w-5.ensures in
          let r6 = judge_num 5 (lit< tt) 0 31 (lit< tt) r5 c.value-w-6.ensures in
          judge_num 9 (lit< tt) 0 511 (lit< tt) r6 c.value.ensures;
    }
