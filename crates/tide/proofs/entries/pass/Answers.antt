-- `pass` meets its contract: one entry is walked as any, and good ones are passed at once.
use Rattle.std.proofs.Common.{◌-◌, arith}
use Rattle.walk.specs.Walk.{seen}
use Rattle.tide.specs.Laws.Entries.{passed_as, run_passes}
use Rattle.tide.specs.Laws.Turns.{entry_turn}
use Rattle.tide.proofs.entries.pass.Goals as goal

pub returns-then-count-eq0 : goal.returns-then-count-eq0
returns-then-count-eq0 c =
    let a = c.args in
    (omega arith, omega arith, λ next. entry_turn a.s.now next (a.n - 1) (seen a.w) (omega arith) c.entry-walk.ensures)

pub returns : goal.returns
returns c =
    let a = c.args in
    let s = a.s.now in
    let m = c.good_from-count.result in
    run_passes s a.n m (seen a.w) (omega arith) (omega (arith, c.good_from-count.ensures.0, c.unsought-most.ensures.0)) c.requires.1 (omega arith) c.good_from-count.ensures.1 (λ e. let n = c.unsought-most.ensures.1 e in omega (arith, c.good_from-count.ensures.0))
    (passed_as s m (seen a.w) (omega arith) c.get.ensures c.behind.ensures.0 c.behind.ensures.1)
