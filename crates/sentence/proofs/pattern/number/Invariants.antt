-- `number`: the digits left spell the rest of the number, which only grows.
use Rattle.std.proofs.Common.{◌≡◌, ◌≤◌, drop}
use Rattle.sentence.specs.Spelling.{spelt}
use Rattle.sentence.proofs.pattern.number.Given as goal

abbrev pub invariant-loop-c : goal.invariant-loop-c
invariant-loop-c l = record {
  good : l.all ≤ 2_097_151;
  rest : spelt 0 l.part ≡ spelt l.all (drop l.c-index l.part);
}
