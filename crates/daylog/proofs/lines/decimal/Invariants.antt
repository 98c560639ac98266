-- `decimal` stores the last digit first: the digits of what is left, stored before those that stand, give the whole.
use Rattle.std.proofs.Common.{◌≡◌, ◌+◌, ◌<◌, ◌≤◌, length}
use Rattle.std.proofs.lemmas.List.Edits.{sets}
use Rattle.daylog.specs.LinesText.{decimal}
use Rattle.daylog.proofs.lines.decimal.Given as goal

abbrev pub invariant-loop-i : goal.invariant-loop-i
invariant-loop-i l = record {
  within : l.at ≤ l.i;
  ends : l.at < l.i → l.i ≡ l.at + length (decimal l.rest);
  more : l.at < l.i → sets l.out l.at (decimal l.rest) ≡ sets l.initial.out l.at (decimal l.number);
  done : l.i ≡ l.at → l.out ≡ sets l.initial.out l.at (decimal l.number);
}
