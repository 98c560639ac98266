-- `judge_entries` meets its contract: good entries are passed at once; else what is left to judge behind j entries is what there was to judge.
use Prim.Native.Nat.{◌+◌, ◌-◌, ◌*◌}
use mathlib.Core.Path.{◌≡◌, sym, ap, ap₂, ◌∙◌}
use native.Mathlib.Omega.{arith}
use Rattle.walk.specs.Rows.{even_judged}
use Rattle.walk.specs.Laws.RowsJudged.{even_judged_turn}
use Rattle.walk.specs.Walk.{seen}
use Rattle.tide.specs.Making.{entry_judged, entries_judged}
use Rattle.tide.proofs.writing.making.judge_entries.Goals as goal

pub pass-requires : goal.pass-requires
pass-requires c = (c.requires.0, c.requires.1, c.all_good.ensures c.if-all_good.true)

pub loop-j-init : goal.loop-j-init
loop-j-init c =
    let a = c.args in
    let m : a.n ≡ a.n - 0 = omega arith in
    let k : a.k ≡ a.k + 0 * 3 = omega arith in
    ap₂ (λ m k. entries_judged a.row.now m k (seen a.from)) m k

pub loop-j-preserved : goal.loop-j-preserved
loop-j-preserved c =
    let a = c.args in
    let j = c.loop-j.j in
    c.loop-j.invariant ∙ even_judged_turn 3 (a.n - (j + 1)) (entry_judged a.row.now) (a.k + j * 3) (seen c.loop-j.w) (omega arith) (omega arith) c.judge_entry-w.ensures

pub returns : goal.returns
unfolding even_judged
returns c =
    let a = c.args in
    let none : a.n - c.loop-j.j ≡ 0 = omega arith in
    sym (c.loop-j.invariant ∙ ap (λ m. entries_judged a.row.now m (a.k + c.loop-j.j * 3) (seen c.loop-j.w)) none)
