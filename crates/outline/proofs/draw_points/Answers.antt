-- `draw_points` meets its contract: the first j points stand in the row.
use Prim.Native.Nat.{◌+◌, ◌*◌}
use mathlib.Core.Path.{◌≡◌, refl, ap, ◌∙◌}
use native.Mathlib.Omega.{arith}
use lib.Seq.{sets}
use Rattle.bits.specs.Answers.{got}
use Rattle.outline.specs.Angles.{northing, easting}
use Rattle.notice_fields.specs.Parts.{latitude_bits, longitude_bits, point_bits}
use Rattle.walk.specs.Groups.{repeat_at}
use Rattle.outline.specs.Standing.{points_drawn}
use Rattle.outline.specs.Laws.Angles.{latitude_stored, longitude_stored}
use Rattle.outline.proofs.Laws.Drawing.{point_turn}
use Rattle.outline.proofs.draw_points.Goals as goal

pub loop-j-init : goal.loop-j-init
unfolding repeat_at
loop-j-init c = refl

pub loop-j-preserved : goal.loop-j-preserved
loop-j-preserved c =
    let a = c.args in
    let s = a.s.now in
    let p = a.at + c.loop-j.j * point_bits in
    let x = latitude_stored (got s p latitude_bits) (c.latitude_of.ensures ∙ ap northing c.get-latitude.ensures) in
    let y = longitude_stored (got s (p + latitude_bits) longitude_bits) (c.longitude_of.ensures ∙ ap easting c.get-longitude.ensures) in
    point_turn s a.row.now a.k a.at c.loop-j.j x y c.loop-j.invariant

pub returns : goal.returns
returns c =
    let a = c.args in
    let e : c.loop-j.j ≡ a.n = omega arith in
    c.loop-j.invariant ∙ ap (λ n. sets a.row.now a.k (points_drawn a.s.now n a.at)) e
