-- `judge_points` meets its contract: what is left to judge behind j points is what there was to judge.
use Prim.Native.Nat.{◌+◌, ◌-◌, ◌*◌}
use mathlib.Core.Path.{◌≡◌, sym, ap, ap₂, ◌∙◌}
use native.Mathlib.Omega.{arith}
use Rattle.walk.specs.Walk.{seen}
use Rattle.walk.specs.Rows.{even_judged}
use Rattle.notice_fields.specs.Making.{points_judged}
use Rattle.notice_fields.specs.Laws.Judging.{point_turn}
use Rattle.notice_fields.proofs.making.judge_points.Goals as goal

pub loop-j-init : goal.loop-j-init
loop-j-init c =
    let a = c.args in
    let m : a.n ≡ a.n - 0 = omega arith in
    let k : a.k ≡ a.k + 0 * 2 = omega arith in
    ap₂ (λ m k. points_judged a.row.now m k (seen a.from)) m k

pub loop-j-preserved : goal.loop-j-preserved
loop-j-preserved c =
    let a = c.args in
    let j = c.loop-j.j in
    c.loop-j.invariant
    ∙ point_turn a.row.now (a.n - (j + 1)) (a.k + j * 2) (seen c.loop-j.w) (omega arith) (omega arith) c.entry.ensures c.entry-in-loop-j.ensures c.judged_latitude-latitude.ensures c.judged_longitude-w.ensures

pub returns : goal.returns
unfolding even_judged
returns c =
    let a = c.args in
    let none : a.n - c.loop-j.j ≡ 0 = omega arith in
    sym (c.loop-j.invariant ∙ ap (λ m. points_judged a.row.now m (a.k + c.loop-j.j * 2) (seen c.loop-j.w)) none)
