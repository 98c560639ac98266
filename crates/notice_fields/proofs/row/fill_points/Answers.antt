-- `fill_points` meets its contract: the first j points stand in the row.
use Prim.Native.Nat.{◌+◌, ◌*◌}
use mathlib.Core.Path.{◌≡◌, refl, ap, ◌∙◌}
use native.Mathlib.Omega.{arith}
use lib.Seq.{sets}
use Rattle.walk.specs.Groups.{repeat_at}
use Rattle.walk.specs.Laws.Reading.{got_lt}
use Rattle.notice_fields.specs.Standing.{points_at}
use Rattle.notice_fields.specs.Parts.{latitude_bits, longitude_bits, point_bits}
use Rattle.notice_fields.specs.Laws.Rows.{points_turn}
use Rattle.notice_fields.proofs.row.fill_points.Goals as goal

pub loop-j-init : goal.loop-j-init
unfolding repeat_at
loop-j-init c = refl

pub overflow_cast-row : goal.overflow_cast-row
overflow_cast-row c =
    let a = c.args in
    omega (arith, got_lt a.s.now (a.at + c.loop-j.j * point_bits) latitude_bits c.get.ensures)

pub overflow_cast-row-in-loop-j : goal.overflow_cast-row-in-loop-j
overflow_cast-row-in-loop-j c =
    let a = c.args in
    omega (arith, got_lt a.s.now (a.at + c.loop-j.j * point_bits + latitude_bits) longitude_bits c.get-in-loop-j.ensures)

pub loop-j-preserved : goal.loop-j-preserved
loop-j-preserved c =
    let a = c.args in
    points_turn a.s.now a.row.now a.k a.at c.loop-j.j refl c.get.ensures c.get-in-loop-j.ensures c.loop-j.invariant

pub returns : goal.returns
returns c =
    let a = c.args in
    let e : c.loop-j.j ≡ a.n = omega arith in
    c.loop-j.invariant ∙ ap (λ n. sets a.row.now a.k (points_at a.s.now n a.at)) e
