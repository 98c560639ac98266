-- `same` meets its contract: the runs are alike where no byte so far differed and those left are alike.
use mathlib.Core.Path.{◌≡◌}
use mathlib.Core.Bool.{◌&&◌}
use lib.ListN.{length, drop}
use Rattle.places.specs.Desk.{alike}
use Rattle.desk.proofs.accepting.placing.same.Given as goal

abbrev pub invariant-loop-i : goal.invariant-loop-i
invariant-loop-i l = (length l.s ≡ length l.t) × (alike l.s l.t ≡ (l.same && alike (drop l.i l.s) (drop l.i l.t)))
