-- What writing a notice answers, from its judging and its room: a row that is too short leaves no room. Assumes nothing.
use Rattle.std.specs.Prelude.{ℕ, ◌*◌, ◌≤◌, ◌≡◌, Bool, true, false, cond, List, [], eqb, length}
use Rattle.std.proofs.Math.Path.{refl}
use Rattle.std.proofs.Common.{sym, ap, ◌∙◌, arith, eqb-true}
use Rattle.format.specs.Fmt.{accepted, write}
use Rattle.format.specs.Promises.{room_for}
use Rattle.format.specs.Refusals.{bare, Verdict}
use Rattle.format.specs.Laws.Putting.{Puts}
use Rattle.walk.specs.Judging.{beyond, closing}
use Rattle.walk.specs.Laws.RowsMade.{Closes, closes, row_refused, row_stands}
use Rattle.walk.specs.Laws.Step.{clear}
use Rattle.walk.specs.Walk.{Walk, Stepped}
use Rattle.notice_fields.specs.Row.{areas_long}
use Rattle.packet.specs.Packet.{joined}
use Rattle.notice.specs.Notice.{ours, notice, notices}
use Rattle.notice.specs.Record.{values_of}
use Rattle.notice.specs.declared.reading.Notice.{Notice}
use Rattle.notice.specs.Making.{NoticeJudged}
use Rattle.notice.specs.WritingPromises.{NoticeWrites}

-- no refusal behind the text is none before it
before_text : (w : ℕ) (r : Walk) → (beyond w 0 r).code ≡ 0 → r.code ≡ 0
unfolding beyond
before_text w r = go (eqb r.code 0) refl
  where
    go : (t : Bool) → eqb r.code 0 ≡ t → cond t 0 r.code ≡ 0 → r.code ≡ 0
    go true e z = eqb-true r.code 0 e
    go false e z = z

module _ (english : Bool) (s : List ℕ) (r : Notice) (areas text : List ℕ) (st : Stepped) (x : NoticeJudged english r areas text st) {room : ℕ} {code : Verdict}
    (is : room ≡ room_for (length areas) st.next (length s)) (e : code ≡ closing false 8 joined room (beyond (length text * 8) 0 st.walk)) where
  abbrev pub all : Walk
  all = beyond (length text * 8) 0 st.walk

  abbrev pub values : List ℕ
  values = values_of (r, (areas, text))

  asked : all.code ≡ 0 → st.next ≡ areas_long r.count areas
  asked z = x.asked (before_text (length text * 8) st.walk z)

  pub notice_refused : (code.code ≡ 0 → ⊥) → NoticeWrites (ours english) s r areas text code s
  unfolding notices
  notice_refused = row_refused (notices (ours english)) values s all x.judged refl (omega arith) (length areas) st.next (areas_long r.count areas) asked is e

  -- an accepted notice: its values were written, and their size and room are good
  notice_fits : code.code ≡ 0 → Closes 8 joined room all
  notice_fits z = closes 8 joined room all (ap (λ r. r.code) (sym e) ∙ z)

  pub notice_laid : code.code ≡ 0 → write (notice (ours english)) [] 0 values ≡ accepted x.judged.laid
  notice_laid z = x.judged.so ∙ clear all (accepted x.judged.laid) (notice_fits z).clean

  pub text_small : code.code ≡ 0 → length text ≤ joined
  unfolding beyond
  text_small z = omega (arith, (notice_fits z).small)

  pub notice_stands : {t : List ℕ} → code.code ≡ 0 → Puts (notice (ours english)) values s t → NoticeWrites (ours english) s r areas text (bare 0) t
  unfolding notices
  notice_stands = row_stands (notices (ours english)) values s all x.judged refl (omega arith) (length areas) st.next (areas_long r.count areas) asked is e
