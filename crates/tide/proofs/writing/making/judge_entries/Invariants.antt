-- `judge_entries` meets its contract: good entries are passed at once; else what is left to judge behind j entries is what there was to judge.
use Prim.Native.Nat.{◌+◌, ◌-◌, ◌*◌}
use mathlib.Core.Path.{◌≡◌}
use Rattle.walk.specs.Walk.{seen}
use Rattle.tide.specs.Making.{entries_judged}
use Rattle.tide.proofs.writing.making.judge_entries.Given as goal

abbrev pub invariant-loop-j : goal.invariant-loop-j
invariant-loop-j l = entries_judged l.row l.n l.k (seen l.initial.w) ≡ entries_judged l.row (l.n - l.j) (l.k + l.j * 3) (seen l.w)
