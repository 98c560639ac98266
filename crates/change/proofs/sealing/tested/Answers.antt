-- `tested`: of no bytes at all there is no seal to test.
use Rattle.std.proofs.Common.{sym, ap, ◌∙◌, length, eqb-true}
use Rattle.format.specs.Refusals.{code_of}
use Rattle.format.specs.Laws.Sealing.{stamp_none}
use Rattle.change.proofs.sealing.tested.Goals as goal

pub returns-then-is_empty : goal.returns-then-is_empty
returns-then-is_empty c =
    let a = c.args in
    stamp_none a.s.now (code_of a.first) (ap code_of c.in_ok-first.was) (eqb-true (length a.s.now) 0 (sym c.is_empty.ensures ∙ c.if-is_empty.true))
