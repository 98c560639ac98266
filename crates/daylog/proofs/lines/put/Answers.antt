-- `put` stores byte by byte: what is left to store, stored where the loop stands, gives the whole.
use Rattle.std.proofs.Common.{refl, ◌∙◌, arith, length-set}
use Rattle.daylog.specs.Laws.Text.{sets_start, sets_turn, sets_end}
use Rattle.daylog.proofs.lines.put.Goals as goal

pub loop-i-init : goal.loop-i-init
loop-i-init c = (refl, sets_start c.args.out.now c.args.at c.args.bytes.now)

pub loop-i-preserved : goal.loop-i-preserved
loop-i-preserved c =
    let a = c.args in
    (simp length-set c.loop-i.invariant.0, sets_turn c.loop-i.out a.at c.loop-i.i a.bytes.now (omega arith) ∙ c.loop-i.invariant.1)

pub returns : goal.returns
returns c =
    let a = c.args in
    record { ends = refl; leaves = sets_end c.loop-i.out a.at c.loop-i.i a.bytes.now (omega arith) ∙ c.loop-i.invariant.1 }
