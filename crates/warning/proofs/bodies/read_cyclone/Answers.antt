-- `read_cyclone` walks the body as its layout stands: one step a field. Printed by tools/bodies.
use mathlib.Core.Path.{refl}
use lib.Dec.{lit<, lit≤}
use Rattle.walk.specs.Laws.Reading.{step_num}
use Rattle.warning.proofs.bodies.read_cyclone.Goals as goal

pub returns : goal.returns
returns c =
    record {
      kind = refl;
      on = λ e.
          let r1 = step_num 3 (lit< tt) (lit≤ tt) (lit< tt) 1 4 e c.num-w.ensures.0 in
          let r2 = step_num 9 (lit< tt) (lit≤ tt) (lit< tt) 0 511 r1 c.num-w-2.ensures.0 in
          let r3 = step_num 9 (lit< tt) (lit≤ tt) (lit< tt) 0 511 r2 c.num-w-3.ensures.0 in
          let r4 = step_num 6 (lit< tt) (lit≤ tt) (lit< tt) 0 63 r3 c.num-w-4.ensures.0 in
          let r5 = step_num 9 (lit< tt) (lit≤ tt) (lit< tt) 0 511 r4 c.num-w-5.ensures.0 in
          let r6 = step_num 5 (lit< tt) (lit≤ tt) (lit< tt) 0 31 r5 c.num-w-6.ensures.0 in
          step_num 9 (lit< tt) (lit≤ tt) (lit< tt) 0 511 r6 c.num-w-7.ensures.0;
    }
