-- `read_surge` walks the body as its layout stands: one step a field. Printed by tools/bodies.
use mathlib.Core.Path.{refl}
use lib.Dec.{lit<, lit≤}
use Rattle.walk.specs.Laws.Reading.{step_num, step_fill}
use Rattle.warning.proofs.bodies.read_surge.Goals as goal

pub returns : goal.returns
returns c =
    record {
      kind = refl;
      on = λ e.
          let r1 = step_num 9 (lit< tt) (lit≤ tt) (lit< tt) 0 511 e c.num-w.ensures.0 in
          let r2 = step_num 9 (lit< tt) (lit≤ tt) (lit< tt) 0 511 r1 c.num-w-2.ensures.0 in
          let r3 = step_num 10 (lit< tt) (lit≤ tt) (lit< tt) 0 1_023 r2 c.num-w-3.ensures.0 in
          let r4 = step_num 13 (lit< tt) (lit≤ tt) (lit< tt) 0 8_191 r3 c.num-w-4.ensures.0 in
          step_fill 9 (lit≤ tt) (lit< tt) r4 c.fill-w.ensures;
    }
