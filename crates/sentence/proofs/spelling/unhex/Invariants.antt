-- `unhex`: the bytes that stand, then those of the digits from 2 * i on, are all.
use Rattle.std.proofs.Common.{◌≡◌, ◌*◌, ◌++◌, length, take, drop}
use Rattle.sentence.specs.Spelling.{unhexed}
use Rattle.sentence.proofs.spelling.unhex.Given as goal

abbrev pub invariant-loop-i : goal.invariant-loop-i
invariant-loop-i l = record {
  long : length l.byte-items ≡ 17;
  stored : take l.i l.byte-items ++ unhexed (drop (2 * l.i) l.part) ≡ unhexed l.part;
}
