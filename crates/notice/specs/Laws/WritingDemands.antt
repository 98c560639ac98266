-- Demands 2 and 3 of the notice, of the promises that its reading, writing and correcting make: a row with the numbers that its areas ask for is written as every layout's values are. Assumes nothing.
use Rattle.std.specs.Prelude.{◌≡◌, true, List, ℕ}
use Rattle.format.specs.Message.{write_message}
use Rattle.format.specs.Promises.{Writes}
use Rattle.format.specs.Refusals.{Verdict}
use Rattle.format.specs.Laws.Lent.{one_laying}
use Rattle.format.proofs.Laws.Lent.{enough_lays}
use Rattle.notice_fields.specs.Terms.{Terms}
use Rattle.notice.specs.Notice.{notices}
use Rattle.notice.specs.Record.{values_of}
use Rattle.notice.specs.declared.reading.Notice.{Notice}
use Rattle.notice.specs.WritingPromises.{enough, NoticeWrites}

-- ---- what writing a notice promises, where the row has enough, is what every layout's writing does

pub enough_writes : (terms : Terms) (s : List ℕ) (r : Notice) (row t : List ℕ) (code : Verdict) (u : List ℕ) → enough r row ≡ true → NoticeWrites terms s r row t code u
    → Writes (notices terms) s code u (values_of (r, (row, t)))
enough_writes terms s r row t code u = enough_lays (notices terms) (values_of (r, (row, t))) s (enough r row) code u

-- two answers that it allows are equal
pub one_writing : (terms : Terms) (s : List ℕ) (r : Notice) (row t : List ℕ) (c d : Verdict) (u w : List ℕ) → NoticeWrites terms s r row t c u → NoticeWrites terms s r row t d w → (c ≡ d) × (u ≡ w)
one_writing terms s r row t = one_laying (enough r row) (write_message (notices terms) (values_of (r, (row, t)))) s
