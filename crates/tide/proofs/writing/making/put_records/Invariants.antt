-- `put_records` meets its contract: what is left to put behind i records is what there was to put.
use Prim.Native.Nat.{◌+◌, ◌-◌, ◌*◌, ◌≤◌}
use mathlib.Core.Path.{◌≡◌}
use Rattle.tide.specs.Making.{records_put}
use Rattle.tide.specs.Row.{long_most, record_most}
use Rattle.tide.specs.Standing.{front}
use Rattle.tide.proofs.writing.making.put_records.Given as goal

abbrev pub invariant-loop : goal.invariant-loop
invariant-loop l = (records_put l.row l.count 0 front l.initial.buf ≡ records_put l.row (l.count - l.counter) l.k l.at l.buf) × (l.at ≤ front + l.counter * record_most) × (l.k ≤ l.counter * long_most)
