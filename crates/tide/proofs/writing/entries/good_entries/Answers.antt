-- `good_entries` tells that every entry is good: those before j are.
use native.Mathlib.Omega.{arith}
use Rattle.tide.specs.Laws.RowEntries.{good_turn}
use Rattle.tide.proofs.writing.entries.good_entries.Goals as goal

pub loop-j-init : goal.loop-j-init
loop-j-init c j l = absurd (omega arith)

pub loop-j-preserved : goal.loop-j-preserved
loop-j-preserved c =
    let a = c.args in
    let j = c.loop-j.j in
    good_turn a.row.now a.k j c.loop-j.invariant (omega arith) (c.good_entry.ensures c.if-not-good_entry.false)

pub returns : goal.returns
returns c e j l = c.loop-j.invariant j (omega arith)
