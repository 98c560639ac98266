-- `bellnewt_rectangle_write` writes the area of the record of its numbers: the signed ones fit, so they stand in it as they are.
use mir.Syntax.{w32}
use mir.ValLaws.{to_z-of_z}
use Rattle.format.specs.Refusals.{told_of}
use Rattle.c_calls.proofs.area_calls.bellnewt_rectangle_write.Goals as goal

pub returns : goal.returns
returns c =
    (told_of c.written.result, c.packed.ensures, rw (to_z-of_z w32 c.args.longitude c.ranges.longitude, to_z-of_z w32 c.args.latitude c.ranges.latitude, to_z-of_z w32 c.args.second_longitude c.ranges.second_longitude, to_z-of_z w32 c.args.second_latitude c.ranges.second_latitude) at c.written.ensures)
