-- `of` divides the number as its parts stand in it.
use Prim.Native.Nat.{◌%◌}
use Rattle.ais_common.specs.Time.{time_of, short_of}
use Rattle.ais_common.proofs.time.Time.of.Goals as goal

pub returns : goal.returns
unfolding time_of short_of
returns c = let e = c.of-month.ensures in λ i. record { month = (e i).month; day = (e i).day; hour = (e i).hour; minute = c.args.v % 64 }
