-- `fields` is the walk over the head, the areas and the text, joined, behind the size's test.
use mathlib.Core.Path.{sym, ap, ◌∙◌}
use borrow.Author.Tests.{eq-eqb, ne_eqb}
use Rattle.format.specs.Laws.Outcomes.{number_some}
use Rattle.notice.specs.Notice.{sizes}
use Rattle.notice.specs.Steps.{ending_of, unread_by, behind, course_of}
use Rattle.notice.specs.Laws.Told.{sizes_small}
use Rattle.notice.proofs.reading.fields.Goals as goal

pub returns-in-Err : goal.returns-in-Err
unfolding course_of
returns-in-Err c =
    let n = c.in-Err.ensures in
    rw (ne_eqb (sizes c.args.s.now) 0 (λ z. number_some _ (n ∙ z))) (c.unread.ensures ∙ ap unread_by n)

pub close-ending-requires : goal.close-ending-requires
close-ending-requires c = sizes_small c.args.s.now (sym c.in_default.ensures)

pub returns : goal.returns
unfolding course_of
returns c = let a = c.args in
    let s = a.s.now in
    let areas = c.walk-areas.ensures in
    let ending = c.close-ending.ensures ∙ ap (ending_of a.english s) areas in
    rw (eq-eqb (sizes s) 0 (sym c.in_default.ensures)) ((λ k. record { walk = (ending k).walk; notice = c.head-head.result.notice; at = (areas k).at; text = (ending k).text }) ∙ ap (behind a.english s) c.head-head.ensures)
