-- `put` meets its contract: what is left to put behind the areas so far is what there was to put.
use Prim.Native.Nat.{◌+◌, ◌-◌, ◌*◌, ◌≤◌}
use mathlib.Core.Path.{◌≡◌}
use Rattle.notice_fields.specs.Row.{long_most}
use Rattle.notice_fields.specs.Standing.{front, area_most}
use Rattle.notice_fields.specs.Making.{areas_put}
use Rattle.notice_fields.proofs.making.put.Given as goal

abbrev pub invariant-loop : goal.invariant-loop
invariant-loop l = (areas_put l.row l.count 0 front l.initial.buf ≡ areas_put l.row (l.count - l.counter) l.k l.at l.buf) × (l.at ≤ front + l.counter * area_most) × (l.k ≤ l.counter * long_most)
