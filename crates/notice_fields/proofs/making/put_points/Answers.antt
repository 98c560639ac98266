-- `put_points` meets its contract: what is left to put behind j points is what there was to put.
use Prim.Native.Nat.{◌+◌, ◌-◌, ◌*◌}
use mathlib.Core.Path.{◌≡◌, sym, ap, ◌∙◌}
use native.Mathlib.Omega.{arith}
use Rattle.format.specs.Correcting.{put_in_lem}
use Rattle.walk.specs.Rows.{even_put}
use Rattle.notice_fields.specs.Parts.{latitude_bits, longitude_bits, point_bits}
use Rattle.notice_fields.specs.Making.{points_put}
use Rattle.notice_fields.specs.Laws.Putting.{point_turn}
use Rattle.notice_fields.proofs.making.put_points.Goals as goal

pub loop-j-init : goal.loop-j-init
loop-j-init c =
    let a = c.args in
    let m : a.n ≡ a.n - 0 = omega arith in
    let k : a.k ≡ a.k + 0 * 2 = omega arith in
    let at : a.at ≡ a.at + 0 * point_bits = omega arith in
    λ i. points_put a.row.now (m i) (k i) (at i) a.buf.now

pub loop-j-preserved : goal.loop-j-preserved
loop-j-preserved c =
    let a = c.args in
    let j = c.loop-j.j in
    c.loop-j.invariant
    ∙ point_turn a.row.now (a.n - (j + 1)) (a.k + j * 2) (a.at + j * point_bits) c.loop-j.buf (omega arith) (omega arith) (omega arith) c.entry.ensures c.entry-in-loop-j.ensures
    (put_in_lem c.loop-j.buf (a.at + j * point_bits) latitude_bits c.entry.result c.put.ensures) (put_in_lem _ (a.at + j * point_bits + latitude_bits) longitude_bits c.entry-in-loop-j.result c.put-in-loop-j.ensures)

pub returns : goal.returns
unfolding even_put
returns c =
    let a = c.args in
    let none : a.n - c.loop-j.j ≡ 0 = omega arith in
    sym (c.loop-j.invariant ∙ ap (λ m. points_put a.row.now m (a.k + c.loop-j.j * 2) (a.at + c.loop-j.j * point_bits) c.loop-j.buf) none)
