-- `judged_rectangle` judges one corner behind the other.
use mir.Syntax.{w32}
use mir.ValLaws.{to_z-of_z}
use lib.Dec.{lit<}
use Rattle.area.proofs.shape_writing.judged_rectangle.Goals as goal

pub returns : goal.returns
returns c =
    let b = c.args.b in
    let known = c.struct_told-1.given in
    let one = rw (to_z-of_z w32 b.longitude (record { sfits = known.0.1 }), to_z-of_z w32 b.latitude (record { sfits = known.1.0.1 })) at c.judged_point-w.ensures in
    let other = rw (to_z-of_z w32 b.second_longitude (record { sfits = known.1.1.0.1 }), to_z-of_z w32 b.second_latitude (record { sfits = known.1.1.1.0.1 })) at c.judged_point.ensures in
    record { on = λ e. other.on (lit< tt) (lit< tt) (one.on (lit< tt) (lit< tt) e) }
