-- `read_rectangle` walks a rectangle as its layout stands: one corner behind the other.
use mir.Syntax.{w32}
use mir.ValLaws.{to_z-of_z}
use mathlib.Core.Path.{refl, ◌∙◌}
use lib.Dec.{lit<, lit≤}
use Rattle.area.specs.Laws.Walking.{Angle, angle_narrow, angle_read}
use Rattle.area.proofs.reading.shapes.read_rectangle.Goals as goal

pub returns : goal.returns
returns c =
    let s = c.args.s.now in
    let east : Angle s 28 108_000_000 108_600_000 _ _ _ = record { walked = c.read_longitude-w.ensures; is = to_z-of_z w32 c.int-longitude.result (record { sfits = c.int-longitude.type_inv }) ∙ c.int-longitude.ensures; some = lit< tt; small = lit≤ tt; less = lit≤ tt; even = refl } in
    let north : Angle s 27 54_000_000 54_600_000 _ _ _ = record { walked = c.read_latitude-w.ensures; is = to_z-of_z w32 c.int-latitude.result (record { sfits = c.int-latitude.type_inv }) ∙ c.int-latitude.ensures; some = lit< tt; small = lit≤ tt; less = lit≤ tt; even = refl } in
    let east2 : Angle s 28 108_000_000 108_600_000 _ _ _ = record { walked = c.read_longitude-w-2.ensures; is = to_z-of_z w32 c.int-second_longitude.result (record { sfits = c.int-second_longitude.type_inv }) ∙ c.int-second_longitude.ensures; some = lit< tt; small = lit≤ tt; less = lit≤ tt; even = refl } in
    let north2 : Angle s 27 54_000_000 54_600_000 _ _ _ = record { walked = c.read_latitude-w-2.ensures; is = to_z-of_z w32 c.int-second_latitude.result (record { sfits = c.int-second_latitude.type_inv }) ∙ c.int-second_latitude.ensures; some = lit< tt; small = lit≤ tt; less = lit≤ tt; even = refl } in
    record {
      kind = refl;
      narrow = (angle_narrow east, angle_narrow north, angle_narrow east2, angle_narrow north2);
      on = λ e. angle_read north2 (lit< tt) (angle_read east2 (lit< tt) (angle_read north (lit< tt) (angle_read east (lit< tt) e)));
    }
