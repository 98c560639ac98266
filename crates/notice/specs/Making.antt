-- What judging and putting a notice gives, step by step. Assumes nothing.
use Rattle.std.specs.Prelude.{ℕ, ◌*◌, ◌≤◌, ◌≡◌, Bool, List, [], length}
use Rattle.bits.specs.Bits.{Bytes}
use Rattle.format.specs.Fmt.{accepted, write}
use Rattle.format.specs.Laws.Putting.{Putting, Puts}
use Rattle.walk.specs.Judging.{beyond}
use Rattle.walk.specs.Laws.Judging.{Judging, Judged}
use Rattle.walk.specs.Walk.{Walk, Stepped}
use Rattle.notice_fields.specs.Row.{areas_long}
use Rattle.notice_fields.specs.Standing.{front}
use Rattle.notice.specs.Notice.{ours, rest, notice}
use Rattle.notice.specs.Record.{headed, values_of}
use Rattle.notice.specs.declared.reading.Notice.{Notice}

-- judging stands at the areas, whatever values follow
pub record HeadJudged (r : Notice) (w : Walk) : Type 0 where
  pub past : List ℕ
  pub is : (english : Bool) (vs : List ℕ) → Judging (write (notice (ours english)) [] 0 (headed r vs)) (rest (ours english) r.count) past front vs w
  pub few : w.code ≡ 0 → r.count ≤ 15

-- all of it is judged; the text is gone past as whole bytes
pub record NoticeJudged (english : Bool) (r : Notice) (areas text : List ℕ) (s : Stepped) : Type 0 where
  pub judged : Judged (write (notice (ours english)) [] 0 (values_of (r, (areas, text)))) (beyond (length text * 8) 0 s.walk)
  pub asked : s.walk.code ≡ 0 → s.next ≡ areas_long r.count areas

-- putting stands at the areas
abbrev pub HeadPut : Notice → List ℕ → List ℕ → Type 0
HeadPut r s t = (english : Bool) (vs : List ℕ) (b : List Bool) → Bytes s → write (notice (ours english)) [] 0 (headed r vs) ≡ accepted b → length b ≤ length s * 8
    → Putting s b (rest (ours english) r.count) front vs t

abbrev pub NoticePut : Notice → List ℕ → List ℕ → List ℕ → List ℕ → Type 0
NoticePut r areas text s t = (english : Bool) → Puts (notice (ours english)) (values_of (r, (areas, text))) s t
