-- `bits::gather` meets its contract: `all` is the number that the bytes passed spell.
use Rattle.std.proofs.Common.{◌≡◌, take, drop}
use Rattle.bits.specs.Bits.{value_of, bits_of}
use Rattle.bits.proofs.gather.Given as goal

abbrev pub invariant-loop-x : goal.invariant-loop-x
invariant-loop-x l = l.all ≡ value_of (bits_of (take l.x-index (drop l.from l.s)))
