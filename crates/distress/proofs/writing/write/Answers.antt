-- `write` answers as the walk over the values and the room decide.
use Rattle.std.proofs.Common.{subst, sym, ap, ◌∙◌}
use Rattle.format.specs.Promises.{Writes}
use Rattle.walk.specs.Laws.Flat.{fails_exit, write_cramped, write_flat}
use Rattle.distress.specs.Report.{reports, plain}
use Rattle.distress.proofs.writing.write.Goals as goal

pub returns-in_err-passed : goal.returns-in_err-passed
unfolding reports
returns-in_err-passed c =
    let s = c.args.buf.now in
    subst (Writes reports s _ s) c.spelled-v.ensures (fails_exit reports plain s _ c.judged-w.ensures c.from_residual.result _ c.from_residual.ensures.1 c.in_err-passed.ensures)

pub returns-then-buf-lt-LEAST : goal.returns-then-buf-lt-LEAST
unfolding reports
returns-then-buf-lt-LEAST c =
    let s = c.args.buf.now in
    let clear = ap (λ v. v.code) (sym c.in_ok-passed.ensures) in
    let (told, left) = subst (Writes reports s _ s) c.spelled-v.ensures (write_cramped reports plain s _ c.judged-w.ensures clear c.if-buf-lt-LEAST.true) in
    (c.into.ensures ∙ told, left)

pub returns : goal.returns
unfolding reports
returns c =
    let s = c.args.buf.now in
    let clear = ap (λ v. v.code) (sym c.in_ok-passed.ensures) in
    subst (Writes reports s _ _) c.spelled-v.ensures
    (write_flat reports plain s _ c.judged-w.ensures clear c.if-buf-lt-LEAST.false c.put.new.buf c.put.ensures)
