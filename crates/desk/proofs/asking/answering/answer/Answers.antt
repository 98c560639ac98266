-- `answer` meets its contract: numbers are missing and are told, or none is and the notice is handed out.
use mathlib.Core.Path.{◌∙◌, sym}
use Rattle.places.specs.Desk.{missing_below, joined_below}
use Rattle.places.specs.Laws.Outcomes.{answers_missing, answers_whole}
use Rattle.desk.proofs.Answers.{answered, buffer_stays, row_stays}
use Rattle.desk.proofs.asking.answering.answer.Goals as goal

pub returns-then-count-ne0 : goal.returns-then-count-ne0
returns-then-count-ne0 c =
    let a = c.args in
    let s = a.store.now in
    answered a.first _ _ _ a.notice.now _ (answers_missing s a.i a.p a.notice.now a.missing.now (λ z. c.if-count-ne0.true (c.count_missing-count.ensures ∙ z)))
    (buffer_stays a.first _ (missing_below a.p.total a.p) a.notice.now a.missing.now _ c.tell_missing.ensures)

pub returns : goal.returns
returns c =
    let a = c.args in
    let s = a.store.now in
    answered a.first _ _ _ _ a.missing.now (answers_whole s a.i a.p a.notice.now a.missing.now (sym c.count_missing-count.ensures ∙ c.if-count-ne0.false))
    (row_stays a.first _ (joined_below a.p.total s a.i a.p) a.i a.p a.notice.now a.missing.now _ c.hand_out.ensures)
