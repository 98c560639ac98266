-- `bellnewt_distress_write` is the report's `write` of the record of its numbers: the signed ones fit, so they stand in it as they are.
use mir.Syntax.{w32}
use mir.ValLaws.{to_z-of_z}
use Rattle.format.specs.Refusals.{told_of}
use Rattle.c_calls.proofs.report_calls.bellnewt_distress_write.Goals as goal

pub returns : goal.returns
returns c =
    (told_of c.write.result, c.packed.ensures, rw (to_z-of_z w32 c.args.longitude c.ranges.longitude, to_z-of_z w32 c.args.latitude c.ranges.latitude) at c.write.ensures)
