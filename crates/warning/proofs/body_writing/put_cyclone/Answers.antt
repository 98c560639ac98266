-- `put_cyclone` puts the body's values in bit order: one step a field. Printed by tools/bodies.
use lib.Dec.{lit≤}
use Rattle.format.proofs.Laws.Putting.{put_step}
use Rattle.warning.proofs.body_writing.put_cyclone.Goals as goal

pub returns : goal.returns
returns c =
    record {
      on = λ e.
          let q1 = put_step 3 (lit≤ tt) e c.put.ensures in
          let q2 = put_step 9 (lit≤ tt) q1 c.put-2.ensures in
          let q3 = put_step 9 (lit≤ tt) q2 c.put-3.ensures in
          let q4 = put_step 6 (lit≤ tt) q3 c.put-4.ensures in
          let q5 = put_step 9 (lit≤ tt) q4 c.put-5.ensures in
          let q6 = put_step 5 (lit≤ tt) q5 c.put-6.ensures in
          put_step 9 (lit≤ tt) q6 c.put-7.ensures;
    }
