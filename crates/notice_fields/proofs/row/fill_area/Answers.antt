-- `fill_area` meets its contract: the kind is stored, then what an area of that kind holds.
use Prim.Native.Nat.{◌+◌}
use mathlib.Core.Path.{ap, ◌∙◌}
use native.Mathlib.Omega.{arith}
use lib.ListN.{length, set, length-set}
use lib.Seq.{length-sets}
use Rattle.walk.specs.Laws.Reading.{got_lt}
use Rattle.notice_fields.specs.Parts.{point_bits}
use Rattle.notice_fields.specs.Standing.{points_at}
use Rattle.notice_fields.specs.Laws.Rows.{sea_stored, circle_stored, sea_long, circle_long, several_long, several_stored}
use Rattle.notice_fields.proofs.row.fill_area.Goals as goal

pub overflow_cast-row : goal.overflow_cast-row
overflow_cast-row c =
    let a = c.args in
    omega (arith, got_lt a.s.now a.at 3 c.get-kind.ensures)

pub bounds-row-k : goal.bounds-row-k
bounds-row-k c =
    let a = c.args in
    omega arith

pub overflow_cast-row-then-kind-eq-SEA : goal.overflow_cast-row-then-kind-eq-SEA
overflow_cast-row-then-kind-eq-SEA c =
    let a = c.args in
    omega (arith, got_lt a.s.now (a.at + 3) 8 c.get.ensures)

pub bounds-row-k-then-kind-eq-SEA : goal.bounds-row-k-then-kind-eq-SEA
bounds-row-k-then-kind-eq-SEA c =
    let a = c.args in
    let n = sea_long a.s.now a.row.now a.k a.at c.get-kind.ensures c.if-kind-eq-SEA.true in
    simp length-set (omega (arith, n))

pub returns-then-kind-eq-SEA : goal.returns-then-kind-eq-SEA
returns-then-kind-eq-SEA c =
    let a = c.args in
    sea_stored a.s.now a.row.now a.k a.at c.get-kind.ensures c.if-kind-eq-SEA.true c.get.ensures

pub fill_points-requires : goal.fill_points-requires
fill_points-requires c =
    let a = c.args in
    let n = circle_long a.s.now a.row.now a.k a.at c.get-kind.ensures c.if-kind-eq-CIRCLE.true in
    (omega arith, omega arith, simp length-set (omega (arith, n)))

pub overflow_cast-row-then-kind-eq-CIRCLE : goal.overflow_cast-row-then-kind-eq-CIRCLE
overflow_cast-row-then-kind-eq-CIRCLE c =
    let a = c.args in
    omega (arith, got_lt a.s.now (a.at + 3 + point_bits) 10 c.get-then-kind-eq-CIRCLE.ensures)

pub bounds-row-k-then-kind-eq-CIRCLE : goal.bounds-row-k-then-kind-eq-CIRCLE
bounds-row-k-then-kind-eq-CIRCLE c =
    let a = c.args in
    let n = circle_long a.s.now a.row.now a.k a.at c.get-kind.ensures c.if-kind-eq-CIRCLE.true in
    omega (arith, n, ap length c.fill_points.ensures ∙ length-sets (set a.row.now a.k c.get-kind.result) (a.k + 1) (points_at a.s.now 1 (a.at + 3)), length-set a.row.now a.k c.get-kind.result)

pub overflow_cast-row-then-kind-eq-CIRCLE-2 : goal.overflow_cast-row-then-kind-eq-CIRCLE-2
overflow_cast-row-then-kind-eq-CIRCLE-2 c =
    let a = c.args in
    omega (arith, got_lt a.s.now (a.at + 3 + point_bits + 10) 2 c.get-then-kind-eq-CIRCLE-2.ensures)

pub bounds-row-k-then-kind-eq-CIRCLE-2 : goal.bounds-row-k-then-kind-eq-CIRCLE-2
bounds-row-k-then-kind-eq-CIRCLE-2 c =
    let a = c.args in
    let n = circle_long a.s.now a.row.now a.k a.at c.get-kind.ensures c.if-kind-eq-CIRCLE.true in
    simp length-set (omega (arith, n, ap length c.fill_points.ensures ∙ length-sets (set a.row.now a.k c.get-kind.result) (a.k + 1) (points_at a.s.now 1 (a.at + 3)), length-set a.row.now a.k c.get-kind.result))

pub shape_of-row-then-kind-eq-CIRCLE : goal.shape_of-row-then-kind-eq-CIRCLE
shape_of-row-then-kind-eq-CIRCLE c =
    let a = c.args in
    simp length-set (ap length c.fill_points.ensures ∙ length-sets (set a.row.now a.k c.get-kind.result) (a.k + 1) (points_at a.s.now 1 (a.at + 3)) ∙ length-set a.row.now a.k c.get-kind.result)

pub returns-then-kind-eq-CIRCLE : goal.returns-then-kind-eq-CIRCLE
returns-then-kind-eq-CIRCLE c =
    let a = c.args in
    circle_stored a.s.now a.row.now a.k a.at c.get-kind.ensures c.if-kind-eq-CIRCLE.true c.fill_points.ensures c.get-then-kind-eq-CIRCLE.ensures c.get-then-kind-eq-CIRCLE-2.ensures

pub overflow_cast-row-2 : goal.overflow_cast-row-2
overflow_cast-row-2 c =
    let a = c.args in
    omega (arith, got_lt a.s.now (a.at + 3) 4 c.get-points.ensures)

pub bounds-row-k-2 : goal.bounds-row-k-2
bounds-row-k-2 c =
    let a = c.args in
    let n = several_long a.s.now a.row.now a.k a.at c.get-kind.ensures c.if-kind-eq-SEA.false c.if-kind-eq-CIRCLE.false c.get-points.ensures in
    simp length-set (omega (arith, n))

pub fill_points-requires-2 : goal.fill_points-requires-2
fill_points-requires-2 c =
    let a = c.args in
    let n = several_long a.s.now a.row.now a.k a.at c.get-kind.ensures c.if-kind-eq-SEA.false c.if-kind-eq-CIRCLE.false c.get-points.ensures in
    (omega arith, omega (arith, got_lt a.s.now (a.at + 3) 4 c.get-points.ensures), simp length-set (omega (arith, n)))

pub shape_of-row : goal.shape_of-row
shape_of-row c =
    let a = c.args in
    ap length c.fill_points-2.ensures ∙ length-sets (set (set a.row.now a.k c.get-kind.result) (a.k + 1) c.get-points.result) (a.k + 2) (points_at a.s.now c.get-points.result (a.at + 7)) ∙ length-set (set a.row.now a.k c.get-kind.result) (a.k + 1) c.get-points.result ∙ length-set a.row.now a.k c.get-kind.result

pub returns : goal.returns
returns c =
    let a = c.args in
    several_stored a.s.now a.row.now a.k a.at c.get-kind.ensures c.if-kind-eq-SEA.false c.if-kind-eq-CIRCLE.false c.get-points.ensures c.fill_points-2.ensures
