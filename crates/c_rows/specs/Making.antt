-- Writing and correcting a notice in a language that is told as a number (paper 01, "Notice and packet"). Assumes nothing.
use Rattle.std.specs.Prelude.{ℕ, ◌≡◌, List}
use Rattle.format.specs.Fmt.{Out}
use Rattle.format.specs.Message.{told, leaves, write_message, correct_message}
use Rattle.format.specs.Refusals.{Verdict}
use Rattle.c_rows.specs.Language.{spoken}
use Rattle.notice.specs.Notice.{ours, notices}
use Rattle.notice.specs.Record.{values_of}
use Rattle.notice.specs.declared.reading.Notice.{Notice}
use Rattle.format.specs.Promises.{Lays}
use Rattle.notice.specs.WritingPromises.{enough}

-- writing: the refusal, and t left of s
abbrev pub WritesIn : ℕ → List ℕ → Notice → List ℕ → List ℕ → Verdict → List ℕ → Type 0
WritesIn language s r areas text = Lays (enough r areas) (spoken language (λ english. write_message (notices (ours english)) (values_of (r, (areas, text))))) s

abbrev pub correcting : ℕ → List ℕ → ℕ → ℕ → Out (List ℕ)
correcting language s i v = spoken language (λ english. correct_message (notices (ours english)) s i v)

-- correcting field number i to v: the refusal, and t left of s
abbrev pub CorrectsIn : ℕ → List ℕ → ℕ → ℕ → Verdict → List ℕ → Type 0
CorrectsIn language s i v code t = (code ≡ told (correcting language s i v)) × (t ≡ leaves (correcting language s i v) s)
