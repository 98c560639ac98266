-- `judged_point` is one step of the walk a field, over what spells it.
use mir.Syntax.{w32}
use mir.ValLaws.{to_z-of_z}
use mathlib.Core.Path.{refl, ap, ◌∙◌}
use Prim.Native.Nat.{◌^◌}
use Rattle.walk.specs.Walk.{seen}
use Rattle.walk.specs.Judging.{signedly_valued}
use Rattle.walk.specs.Laws.Judging.{judge_signed}
use Rattle.area.specs.Shapes.{spell_east, spell_north}
use Rattle.area.proofs.shape_writing.judged_point.Goals as goal

pub returns : goal.returns
returns c =
    let a = c.args in
    let east = c.spelled-east.ensures ∙ ap spell_east (to_z-of_z w32 a.longitude c.ranges.longitude) in
    let north = c.spelled-north.ensures ∙ ap spell_north (to_z-of_z w32 a.latitude c.ranges.latitude) in
    record {
      on = λ near reach e.
          let r1 = judge_signed 28 near 108_000_000 108_600_000 (2 ^ 28) refl e (c.signed_value-w.ensures ∙ ap (λ v. signedly_valued 28 v (2 ^ 28) 108_000_000 160_435_456 108_600_000 (seen a.w)) east) in
          judge_signed 27 reach 54_000_000 54_600_000 (2 ^ 27) refl r1 (c.signed_value.ensures ∙ ap (λ v. signedly_valued 27 v (2 ^ 27) 54_000_000 80_217_728 54_600_000 (seen c.signed_value-w.result)) north);
    }
