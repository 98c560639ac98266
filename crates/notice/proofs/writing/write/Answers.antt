-- `write` answers as the judging, the size and the room decide; then all of it is put.
use mathlib.Core.List.{[]}
use mathlib.Core.Path.{refl, sym, subst}
use native.Mathlib.Omega.{arith}
use Rattle.format.specs.Laws.Outcomes.{number_some, told_exit}
use Rattle.format.proofs.Laws.Legal.{legal}
use Rattle.walk.specs.Walk.{stepped}
use Rattle.notice.specs.Notice.{ours, notice as Notice·notice}
use Rattle.notice.specs.Record.{values_of}
use Rattle.notice.specs.Laws.Writing.{notice_refused, notice_laid, text_small, notice_stands}
use Rattle.notice.specs.WritingPromises.{NoticeWrites}
use Rattle.notice.proofs.writing.write.Goals as goal

pub returns-in_err-closes_before : goal.returns-in_err-closes_before
returns-in_err-closes_before c =
    let a = c.args in
    let s = a.buf.now in
    subst (λ k. NoticeWrites (ours a.english) s a.r a.areas.now a.text.now k s) (sym (told_exit c.from_residual.result _ c.from_residual.ensures.1))
    (notice_refused a.english s a.r a.areas.now a.text.now (stepped c.judged-judged.result) c.judged-judged.ensures c.room-room.ensures c.in_err-closes_before.ensures (number_some _))

pub put-requires : goal.put-requires
unfolding values_of Notice·notice
put-requires c =
    let a = c.args in
    let r = a.r in
    let laid = notice_laid a.english a.buf.now r a.areas.now a.text.now (stepped c.judged-judged.result) c.judged-judged.ensures c.room-room.ensures c.in_ok-closes_before.ensures refl in
    let h = legal (Notice·notice (ours a.english)) [] 0 (values_of (r, (a.areas.now, a.text.now))) _ laid in
    let count = h.2.2.2.2.2.2.2 in (
      omega (arith, count.0),
      text_small a.english a.buf.now r a.areas.now a.text.now (stepped c.judged-judged.result) c.judged-judged.ensures c.room-room.ensures c.in_ok-closes_before.ensures refl,
    )

pub returns : goal.returns
returns c =
    let a = c.args in
    notice_stands a.english a.buf.now a.r a.areas.now a.text.now (stepped c.judged-judged.result) c.judged-judged.ensures c.room-room.ensures c.in_ok-closes_before.ensures refl (c.put.ensures a.english)
