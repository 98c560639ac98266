-- `whole_bytes::slide` meets its contract: the first i bytes of the run stand in `out`.
use Rattle.std.proofs.Common.{◌≡◌, take}
use Rattle.bits.specs.Bits.{bytes_at}
use Rattle.bits.proofs.whole_bytes.slide.Given as goal

abbrev pub invariant-loop-i : goal.invariant-loop-i
invariant-loop-i l = take l.i l.out ≡ bytes_at l.s l.at l.i
