-- `bits::scatter` meets its contract: the bytes from k on are stored, and `rest` is what they leave of `all`.
use Rattle.std.proofs.Common.{◌≡◌, ◌*◌, ◌-◌, ◌/◌, ◌^◌}
use Rattle.bits.specs.Laws.Loops.{filled}
use Rattle.bits.proofs.scatter.Given as goal

abbrev pub invariant-loop-k : goal.invariant-loop-k
invariant-loop-k l = record {
  rest : l.rest ≡ l.all / 2 ^ ((l.count - l.k) * 8);
  stored : l.s ≡ filled l.initial.s l.from l.count l.k l.all;
}
