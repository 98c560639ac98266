-- `judge_points` meets its contract: what is left to judge behind j points is what there was to judge.
use Prim.Native.Nat.{◌+◌, ◌-◌, ◌*◌}
use mathlib.Core.Path.{◌≡◌}
use Rattle.walk.specs.Walk.{seen}
use Rattle.notice_fields.specs.Making.{points_judged}
use Rattle.notice_fields.proofs.making.judge_points.Given as goal

abbrev pub invariant-loop-j : goal.invariant-loop-j
invariant-loop-j l = points_judged l.row l.n l.k (seen l.initial.w) ≡ points_judged l.row (l.n - l.j) (l.k + l.j * 2) (seen l.w)
