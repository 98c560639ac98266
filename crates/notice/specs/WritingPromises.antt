-- What writing a notice promises of the buffer s that it is lent: what every layout's writing does; and 6, last, where the row has fewer numbers than its kinds and counts ask for. Assumes nothing.
use Rattle.std.specs.Prelude.{Bool, List, ℕ, leb, length}
use Rattle.format.specs.Message.{write_message}
use Rattle.format.specs.Promises.{Lays}
use Rattle.format.specs.Refusals.{Verdict}
use Rattle.notice_fields.specs.Row.{areas_long}
use Rattle.notice_fields.specs.Terms.{Terms}
use Rattle.notice.specs.Notice.{notices}
use Rattle.notice.specs.Record.{values_of}
use Rattle.notice.specs.declared.reading.Notice.{Notice}

-- the row has what its kinds and counts ask for
abbrev pub enough : Notice → List ℕ → Bool
enough r areas = leb (areas_long r.count areas) (length areas)

abbrev pub NoticeWrites : Terms → List ℕ → Notice → List ℕ → List ℕ → Verdict → List ℕ → Type 0
NoticeWrites c s r areas text = Lays (enough r areas) (write_message (notices c) (values_of (r, (areas, text)))) s
