-- `put_fog` puts the body's values in bit order: one step a field. Printed by tools/bodies.
use mathlib.Core.Path.{refl}
use lib.Dec.{lit<, lit≤}
use Rattle.format.specs.Correcting.{put_in_lem}
use Rattle.format.specs.Laws.Extent.{opens_field}
use Rattle.format.proofs.Laws.Putting.{put_step, put_pair}
use Rattle.warning.proofs.body_writing.put_fog.Goals as goal

pub returns : goal.returns
returns c =
    record {
      on = λ e.
          let q1 = put_step 9 (lit≤ tt) e c.put.ensures in
          let q2 = put_step 8 (lit≤ tt) q1 c.put-2.ensures in
          put_pair 32 1 0 0 (lit≤ tt) (lit≤ tt) (lit< tt) (lit< tt) refl opens_field q2 (put_in_lem _ 123 32 0 c.put-3.ensures) (put_in_lem _ 155 1 0 c.put-4.ensures);
    }
