-- `same` meets its contract: the runs are alike where no byte so far differed and those left are alike.
use mathlib.Core.Path.{refl, sym, ◌∙◌}
use native.Mathlib.Omega.{arith}
use Rattle.desk.proofs.Joins.{other_length, alike_next, alike_none}
use Rattle.desk.proofs.accepting.placing.same.Goals as goal

pub returns-then-s-t : goal.returns-then-s-t
returns-then-s-t c = let a = c.args in sym (other_length a.s.now a.t.now c.if-s-t.true)

pub loop-i-init : goal.loop-i-init
loop-i-init c = (c.if-s-t.false, refl)

pub loop-i-preserved : goal.loop-i-preserved
loop-i-preserved c =
    let a = c.args in
    let (e, is) = c.loop-i.invariant in
    (e, is ∙ alike_next a.s.now a.t.now c.loop-i.i c.loop-i.same (omega arith) e)

pub returns : goal.returns
returns c =
    let a = c.args in
    let (e, is) = c.loop-i.invariant in
    sym (is ∙ alike_none a.s.now a.t.now c.loop-i.i c.loop-i.same (omega arith) e)
