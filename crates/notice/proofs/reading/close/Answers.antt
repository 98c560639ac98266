-- `close` walks over the text and the end, unless something was refused before.
use Prim.Native.Nat.{ℕ, ◌*◌}
use mathlib.Core.Path.{◌≡◌, sym, ap, ◌∙◌}
use mathlib.Core.Bool.{false, cond, ◌&&◌}
use native.Mathlib.Omega.{arith}
use borrow.Author.Tests.{eqb-true, eqb-false}
use lib.ListN.{length}
use Rattle.bits.specs.Answers.{spanned}
use Rattle.bits.specs.Bits.{bytes_at}
use Rattle.walk.specs.Reading.{ended}
use Rattle.walk.specs.Walk.{Walk, seen, onward}
use Rattle.notice_fields.specs.Laws.Verdicts.{refused, passed}
use Rattle.text.specs.Text.{in_language}
use Rattle.notice.specs.Laws.Closing.{ending_good, ending_refused}
use Rattle.notice.proofs.reading.close.Goals as goal

pub returns-then-is_err : goal.returns-then-is_err
returns-then-is_err c =
    let a = c.args in
    sym (ending_refused a.english a.s.now (seen a.w) (eqb-false (seen a.w).code 0 (refused a.w (sym c.is_err.ensures.value ∙ c.if-is_err.true))))

pub overflow_mul-text : goal.overflow_mul-text
unfolding onward
overflow_mul-text c =
    let a = c.args in
    omega (arith, ap (λ r. r.v) c.rest-rest.ensures)

pub returns : goal.returns
unfolding onward
returns c =
    let a = c.args in
    let s = a.s.now in
    let at = a.w.at in
    let walked : ℕ → Walk → Walk = λ n rest. ended s (onward (n * 8) false 0 (cond (spanned (length s) at n && in_language a.english (bytes_at s at n)) 0 4) 0 rest) in
    let n = c.rest-rest.result.v in
    let rest = seen c.rest-rest.result in
    let walk : seen c.end-walk.result ≡ walked n rest = c.end-walk.ensures ∙ ap (ended s) (c.on.ensures ∙ ap (λ f. onward (n * 8) false 0 f 0 rest) c.judged_text-judged.ensures) in
    ap (λ (w : Walk). record { walk = w; text = n }) walk ∙ ap (λ (q : Walk). record { walk = walked q.v q; text = q.v }) c.rest-rest.ensures
    ∙ sym (ending_good a.english s (seen a.w) (eqb-true (seen a.w).code 0 (passed a.w (sym c.is_err.ensures.value ∙ c.if-is_err.false))))
