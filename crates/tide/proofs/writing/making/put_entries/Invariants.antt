-- `put_entries` meets its contract: what is left to put behind j entries is what there was to put; a row that is too short is left to `put_each`.
use Prim.Native.Nat.{◌+◌, ◌-◌, ◌*◌}
use mathlib.Core.Path.{◌≡◌}
use Rattle.tide.specs.Making.{entries_put}
use Rattle.tide.specs.Row.{entry_bits}
use Rattle.tide.proofs.writing.making.put_entries.Given as goal

abbrev pub invariant-loop-j : goal.invariant-loop-j
invariant-loop-j l = entries_put l.row l.n l.k l.at l.initial.buf ≡ entries_put l.row (l.n - l.j) (l.k + l.j * 3) (l.at + l.j * entry_bits) l.buf
