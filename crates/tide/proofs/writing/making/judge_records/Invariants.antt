-- `judge_records` meets its contract: what is left to judge behind i records is what there was to judge; a refused one leaves nothing.
use Prim.Native.Nat.{◌-◌, ◌*◌, ◌≤◌}
use mathlib.Core.Path.{◌≡◌}
use Rattle.walk.specs.Walk.{seen}
use Rattle.tide.specs.Making.{records_judged}
use Rattle.tide.specs.Row.{long_most}
use Rattle.tide.proofs.writing.making.judge_records.Given as goal

abbrev pub invariant-loop : goal.invariant-loop
invariant-loop l = (records_judged l.row l.count 0 (seen l.initial.w) ≡ records_judged l.row (l.count - l.counter) l.k (seen l.w)) × (l.k ≤ l.counter * long_most)
