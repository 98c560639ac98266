-- The report is a family of format/specs/Laws/Family, whose theorems are demands 2 and 3; said here of the report's own promises. Assumes nothing.
use Rattle.std.specs.Prelude.{◌≡◌, refl, List, ℕ, length, Ok}
use Rattle.std.proofs.Common.{sym}
use Rattle.format.specs.Fmt.{accepted}
use Rattle.format.specs.Message.{write_message}
use Rattle.format.specs.Promises.{read_record}
use Rattle.format.specs.Laws.Answers.{plain_good}
use Rattle.format.proofs.Laws.Family.{one_size}
use Rattle.distress.specs.Promises.{Reads}
use Rattle.distress.specs.Report.{reports, report_of}
use Rattle.distress.specs.declared.reading.Report.{Report}

-- ---- said of the report's promises

-- an answer that is good is an accepted reading
pub good : (s : List ℕ) (r : Report) → Reads s (Ok r) → read_record reports report_of s ≡ accepted r
good s r e = plain_good (read_record reports report_of s) (sym e)

-- a report that is written has 17 bytes
pub long : (vs m : List ℕ) → write_message reports vs ≡ accepted m → length m ≡ 17
unfolding reports
long = one_size reports 17 refl refl
