-- `read_fog` walks the body as its layout stands: one step a field. Printed by tools/bodies.
use mathlib.Core.Path.{refl}
use lib.Dec.{lit<, lit≤}
use Rattle.walk.specs.Laws.Reading.{step_num, step_blank}
use Rattle.warning.proofs.bodies.read_fog.Goals as goal

pub returns : goal.returns
returns c =
    record {
      kind = refl;
      on = λ e.
          let r1 = step_num 9 (lit< tt) (lit≤ tt) (lit< tt) 0 511 e c.num-w.ensures.0 in
          let r2 = step_num 8 (lit< tt) (lit≤ tt) (lit< tt) 0 250 r1 c.num-w-2.ensures.0 in
          step_blank 33 (lit≤ tt) (lit< tt) r2 c.blank-w.ensures;
    }
