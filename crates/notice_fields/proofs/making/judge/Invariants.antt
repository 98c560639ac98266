-- `judge` meets its contract: what is left to judge behind the areas so far is what there was to judge; a refused one leaves nothing.
use Prim.Native.Nat.{◌-◌, ◌*◌, ◌≤◌}
use mathlib.Core.Path.{◌≡◌}
use Rattle.walk.specs.Walk.{seen}
use Rattle.notice_fields.specs.Row.{long_most}
use Rattle.notice_fields.specs.Making.{fresh, areas_judged}
use Rattle.notice_fields.proofs.making.judge.Given as goal

abbrev pub invariant-loop : goal.invariant-loop
invariant-loop l = (areas_judged l.row l.count 0 fresh ≡ areas_judged l.row (l.count - l.counter) l.k (seen l.w)) × (l.k ≤ l.counter * long_most)
