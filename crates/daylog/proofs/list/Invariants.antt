-- `list` lists record by record: what the loop has yet to list, listed from where it stands, gives the whole.
use Rattle.std.proofs.Common.{◌-◌, length}
use Rattle.daylog.proofs.Listing.{Left}
use Rattle.daylog.proofs.list.Given as goal

abbrev pub invariant-loop-kind : goal.invariant-loop-kind
invariant-loop-kind l = Left l.s l.number l.initial.out l.out l.used l.made l.n

abbrev pub decreases-loop-kind : goal.decreases-loop-kind
decreases-loop-kind l = length l.s - l.used
