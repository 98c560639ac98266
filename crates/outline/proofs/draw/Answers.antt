-- `draw` meets its contract: the points of the areas so far stand in the row.
use mathlib.Core.Path.{◌≡◌, refl, sym, ap, ◌∙◌}
use native.Mathlib.Omega.{arith}
use native.Mathlib.Numerals.{add-one}
use lib.Seq.{sets}
use Rattle.notice_fields.specs.Standing.{front, area_wide, areas_end}
use Rattle.notice_fields.specs.Shapes.{shape_at, points_in}
use Rattle.notice_fields.specs.declared.row.Shape.{Shape}
use Rattle.notice_fields.specs.Laws.Shapes.{area_small, next_more}
use Rattle.walk.specs.Groups.{repeat_at, repeat_end, repeat_sum}
use Rattle.walk.specs.Laws.Stored.{sum_more}
use Rattle.outline.specs.Standing.{points_drawn, area_drawn, outline_at}
use Rattle.outline.proofs.Laws.Drawing.{outline_at_long, points_within, first_near, area_turn}
use Rattle.outline.proofs.draw.Goals as goal

pub loop-init : goal.loop-init
unfolding repeat_at repeat_end repeat_sum
loop-init c = (refl, omega arith, refl, refl)

pub draw_points-requires : goal.draw_points-requires
draw_points-requires c =
    let a = c.args in
    let s = a.s.now in
    let x = c.area_at-area.ensures in
    let points = ap (λ (r : Shape). r.points) x in
    let here = points ∙ ap (λ p. (shape_at s p).points) c.loop.invariant.0 in
    let within = points_within s c.loop.counter a.count front (omega arith) in
    let (_, _, few) = area_small s c.loop.at in
    (omega (arith, first_near s c.loop.at, ap (λ (r : Shape). r.first) x), omega (arith, few, points), omega (arith, within, here, outline_at_long s a.count front))

pub overflow_mul-k : goal.overflow_mul-k
overflow_mul-k c =
    let (_, _, few) = area_small c.args.s.now c.loop.at in
    omega (arith, few, ap (λ (r : Shape). r.points) c.area_at-area.ensures)

pub overflow_add-k : goal.overflow_add-k
overflow_add-k c =
    let a = c.args in
    let s = a.s.now in
    let here = ap (λ (r : Shape). r.points) c.area_at-area.ensures ∙ ap (λ p. (shape_at s p).points) c.loop.invariant.0 in
    let within = points_within s c.loop.counter a.count front (omega arith) in
    omega (arith, within, here, outline_at_long s a.count front)

pub overflow_cast-at : goal.overflow_cast-at
overflow_cast-at c =
    let (near, _, _) = area_small c.args.s.now c.loop.at in
    omega (arith, near, ap (λ (r : Shape). r.next) c.area_at-area.ensures)

pub loop-preserved : goal.loop-preserved
loop-preserved c =
    let a = c.args in
    let s = a.s.now in
    let i = c.loop.counter in
    let v = c.loop.invariant in
    let x = c.area_at-area.ensures in
    let next = ap (λ (r : Shape). r.next) x in
    let points = ap (λ (r : Shape). r.points) x ∙ ap (λ p. (shape_at s p).points) v.0 in
    let (near, _, _) = area_small s c.loop.at in
    let one = add-one i in
    let r = c.area_at-area.result in
    let area : points_drawn s r.points r.first ≡ area_drawn s (areas_end s i front) = ap (λ (r : Shape). points_drawn s r.points r.first) x ∙ ap (area_drawn s) v.0 in (
      next ∙ ap (λ p. (shape_at s p).next) v.0 ∙ next_more s i front ∙ ap (λ n. areas_end s n front) (sym one),
      omega (arith, near, next),
      omega (arith, v.2, points, sum_more i (λ at. (shape_at s at).points) (area_wide s) front, ap (λ n. points_in s n front) one),
      area_turn s a.row.now 0 front i c.loop.k (omega (arith, v.2)) v.3 (c.draw_points.ensures ∙ ap (sets c.loop.row c.loop.k) area),
    )

pub returns : goal.returns
returns c =
    let a = c.args in
    let e : c.loop.counter ≡ a.count = omega arith in
    c.loop.invariant.3 ∙ ap (λ n. sets a.row.now 0 (outline_at a.s.now n front)) e
