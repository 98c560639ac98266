-- `read_circle` walks a circle as its layout stands: its centre, then one step a field.
use mir.Syntax.{w32}
use mir.ValLaws.{to_z-of_z}
use mathlib.Core.Path.{refl, ◌∙◌}
use lib.Dec.{lit<, lit≤}
use Rattle.walk.specs.Laws.Reading.{step_num, step_blank}
use Rattle.area.specs.Laws.Walking.{Angle, angle_narrow, angle_read}
use Rattle.area.proofs.reading.shapes.read_circle.Goals as goal

pub returns : goal.returns
returns c =
    let s = c.args.s.now in
    let east : Angle s 28 108_000_000 108_600_000 _ _ _ = record { walked = c.read_longitude-w.ensures; is = to_z-of_z w32 c.int-longitude.result (record { sfits = c.int-longitude.type_inv }) ∙ c.int-longitude.ensures; some = lit< tt; small = lit≤ tt; less = lit≤ tt; even = refl } in
    let north : Angle s 27 54_000_000 54_600_000 _ _ _ = record { walked = c.read_latitude-w.ensures; is = to_z-of_z w32 c.int-latitude.result (record { sfits = c.int-latitude.type_inv }) ∙ c.int-latitude.ensures; some = lit< tt; small = lit≤ tt; less = lit≤ tt; even = refl } in
    record {
      kind = refl;
      narrow = (angle_narrow east, angle_narrow north);
      on = λ e.
          let r1 = angle_read north (lit< tt) (angle_read east (lit< tt) e) in
          let r2 = step_num 7 (lit< tt) (lit≤ tt) (lit< tt) 0 127 r1 c.num-w.ensures.0 in
          step_blank 48 (lit≤ tt) (lit< tt) r2 c.blank-w.ensures;
    }
