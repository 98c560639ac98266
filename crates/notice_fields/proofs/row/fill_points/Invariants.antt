-- `fill_points` meets its contract: the first j points stand in the row.
use mathlib.Core.Path.{◌≡◌}
use lib.Seq.{sets}
use Rattle.notice_fields.specs.Standing.{points_at}
use Rattle.notice_fields.proofs.row.fill_points.Given as goal

abbrev pub invariant-loop-j : goal.invariant-loop-j
invariant-loop-j l = l.row ≡ sets l.initial.row l.k (points_at l.s l.j l.at)
