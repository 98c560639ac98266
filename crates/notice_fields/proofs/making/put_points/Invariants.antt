-- `put_points` meets its contract: what is left to put behind j points is what there was to put.
use Prim.Native.Nat.{◌+◌, ◌-◌, ◌*◌}
use mathlib.Core.Path.{◌≡◌}
use Rattle.notice_fields.specs.Parts.{point_bits}
use Rattle.notice_fields.specs.Making.{points_put}
use Rattle.notice_fields.proofs.making.put_points.Given as goal

abbrev pub invariant-loop-j : goal.invariant-loop-j
invariant-loop-j l = points_put l.row l.n l.k l.at l.initial.buf ≡ points_put l.row (l.n - l.j) (l.k + l.j * 2) (l.at + l.j * point_bits) l.buf
