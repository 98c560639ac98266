-- `judged_circle` judges the centre, then a circle's other values: one step a field.
use mir.Syntax.{w32}
use mir.ValLaws.{to_z-of_z}
use lib.Dec.{lit<}
use Rattle.walk.specs.Laws.Judging.{judge_num, judge_fixed}
use Rattle.area.proofs.shape_writing.judged_circle.Goals as goal

pub returns : goal.returns
returns c =
    let b = c.args.b in
    let known = c.struct_told-1.given in
    let centre = rw (to_z-of_z w32 b.longitude (record { sfits = known.0.1 }), to_z-of_z w32 b.latitude (record { sfits = known.1.0.1 })) at c.judged_point-w.ensures in
    record {
      on = λ e.
          let r1 = judge_num 7 (lit< tt) 0 127 (lit< tt) (centre.on (lit< tt) (lit< tt) e) c.value.ensures in
          judge_fixed 48 4 0 (lit< tt) (lit< tt) r1 c.fixed.ensures;
    }
