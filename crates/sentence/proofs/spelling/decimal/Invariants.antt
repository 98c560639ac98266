-- `decimal` stores the digits last to first: those of the rest, then those that stand, are the whole.
use mathlib.Core.Path.{◌≡◌}
use mathlib.Core.List.{◌++◌}
use Prim.Native.Nat.{◌≤◌, ◌<◌, ◌^◌}
use lib.ListN.{length, take, drop, replicate}
use Rattle.sentence.specs.Spelling.{decimal}
use Rattle.sentence.proofs.spelling.decimal.Given as goal

abbrev pub invariant-loop-rest : goal.invariant-loop-rest
invariant-loop-rest l =
    (l.from ≤ 10)
    × (l.rest < 10 ^ l.from)
    × (length l.chars ≡ 10)
    × (take l.from l.chars ≡ replicate l.from 0)
    × (decimal l.from l.rest ++ drop l.from l.chars ≡ decimal 10 l.n)

abbrev pub decreases-loop-rest : goal.decreases-loop-rest
decreases-loop-rest l = l.rest
