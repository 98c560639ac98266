-- `hex`: the digits that stand, then those of the bytes from i on, are all.
use Rattle.std.proofs.Common.{◌≡◌, ◌*◌, ◌++◌, length, take, drop}
use Rattle.sentence.specs.Spelling.{hex_of}
use Rattle.sentence.proofs.spelling.hex.Given as goal

abbrev pub invariant-loop-i : goal.invariant-loop-i
invariant-loop-i l = record {
  long : length l.out ≡ 34;
  stored : take (2 * l.i) l.out ++ hex_of (drop l.i l.fn.bytes) ≡ hex_of l.fn.bytes;
}
