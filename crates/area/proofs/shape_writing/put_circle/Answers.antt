-- `put_circle` puts a circle's values in bit order, of angles what spells them: one step a field.
use mir.Syntax.{w32}
use mir.ValLaws.{to_z-of_z}
use mathlib.Core.Path.{refl, ap, ◌∙◌}
use lib.Dec.{lit<, lit≤}
use Rattle.ais_common.specs.Laws.Walking.{put_told}
use Rattle.format.specs.Correcting.{put_in_lem}
use Rattle.format.specs.Laws.Extent.{opens_field}
use Rattle.format.proofs.Laws.Putting.{put_step, put_pair}
use Rattle.area.specs.Shapes.{spell_east, spell_north}
use Rattle.area.proofs.shape_writing.put_circle.Goals as goal

pub returns : goal.returns
returns c =
    let a = c.args in
    let b = a.b in
    let known = c.struct_told-1.given in
    let east = c.spelled-longitude.ensures ∙ ap spell_east (to_z-of_z w32 b.longitude (record { sfits = known.0.1 })) in
    let north = c.spelled-latitude.ensures ∙ ap spell_north (to_z-of_z w32 b.latitude (record { sfits = known.1.0.1 })) in
    record {
      on = λ e.
          let q1 = put_told 28 (lit≤ tt) opens_field east e c.put.ensures in
          let q2 = put_told 27 (lit≤ tt) opens_field north q1 c.put-2.ensures in
          let q3 = put_step 7 (lit≤ tt) q2 c.put-3.ensures in
          put_pair 32 16 0 0 (lit≤ tt) (lit≤ tt) (lit< tt) (lit< tt) refl opens_field q3 (put_in_lem _ 156 32 0 c.put-4.ensures) (put_in_lem _ 188 16 0 c.put-5.ensures);
    }
