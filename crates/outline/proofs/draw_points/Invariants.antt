-- `draw_points` meets its contract: the first j points stand in the row.
use mathlib.Core.Path.{◌≡◌}
use lib.Seq.{sets}
use Rattle.outline.specs.Standing.{points_drawn}
use Rattle.outline.proofs.draw_points.Given as goal

abbrev pub invariant-loop-j : goal.invariant-loop-j
invariant-loop-j l = l.row ≡ sets l.initial.row l.k (points_drawn l.s l.j l.at)
