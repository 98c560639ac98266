-- `read_gale` walks the body as its layout stands: one step a field. Printed by tools/bodies.
use mathlib.Core.Path.{refl}
use lib.Dec.{lit<, lit≤}
use Rattle.walk.specs.Laws.Reading.{step_num, step_fill}
use Rattle.warning.proofs.bodies.read_gale.Goals as goal

pub returns : goal.returns
returns c =
    record {
      kind = refl;
      on = λ e.
          let r1 = step_num 8 (lit< tt) (lit≤ tt) (lit< tt) 0 255 e c.num-w.ensures.0 in
          let r2 = step_num 5 (lit< tt) (lit≤ tt) (lit< tt) 0 31 r1 c.num-w-2.ensures.0 in
          let r3 = step_num 5 (lit< tt) (lit≤ tt) (lit< tt) 0 31 r2 c.num-w-3.ensures.0 in
          let r4 = step_num 4 (lit< tt) (lit≤ tt) (lit< tt) 1 8 r3 c.num-w-4.ensures.0 in
          step_fill 28 (lit≤ tt) (lit< tt) r4 c.fill-w.ensures;
    }
