-- What reading a notice promises of the bytes s, the row and the buffer that it is lent; writing and correcting promise what every layout's do (format/specs/Promises). Assumes nothing.
use Rattle.std.specs.Prelude.{◌≡◌, ◌&&◌, List, ℕ, leb, length, Result}
use Rattle.format.specs.Fmt.{Out, also}
use Rattle.format.specs.Message.{ahead}
use Rattle.format.specs.Promises.{answered, read_record, tested, out_of, plain}
use Rattle.format.specs.declared.Refusal.{Refusal}
use Rattle.notice_fields.specs.Terms.{Terms}
use Rattle.notice.specs.Notice.{notices}
use Rattle.notice.specs.Record.{Whole, record_of}
use Rattle.notice.specs.declared.reading.Told.{Told}

-- a record that a row of `areas` and a buffer of `text` entries have room for (6, tested last)
abbrev pub housed : (areas text : ℕ) → Out Whole → Out Whole
housed areas text = tested (λ x. leb (length x.1.0) areas && leb (length x.1.1) text)

-- what an answer tells of it: the record, and how many numbers its areas and bytes its text have
abbrev pub told_of : Whole → Told
told_of x = record { notice = x.0; numbers = length x.1.0; text = length x.1.1 }

-- the answer, and what is left of the row and the buffer
abbrev pub Reads : Terms → List ℕ → List ℕ → List ℕ → Result Told Refusal → List ℕ → List ℕ → Type 0
Reads c s areas text a areas' text' = let o = housed (length areas) (length text) (read_record (notices c) record_of s) in
    (out_of a ≡ plain (also told_of o))
    × (areas' ≡ answered (λ x. ahead x.1.0 areas) (λ c. areas) o)
    × (text' ≡ answered (λ x. ahead x.1.1 text) (λ c. text) o)
