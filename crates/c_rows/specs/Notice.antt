-- Reading a notice as numbers (paper 01, "Notice and packet"): ten of them in a lent row, those of its areas in a second, its text as bytes. Assumes nothing.
use Rattle.std.specs.Prelude.{ℕ, ◌≡◌, cond, List, [], ◌∷◌, ◌++◌, leb, eqb, ℤ, pos, nat_abs, length, drop, get_or}
use Rattle.format.specs.Fmt.{Out, accepted, or_bad, check, after}
use Rattle.format.specs.Message.{told, ahead}
use Rattle.format.specs.Refusals.{bare}
use Rattle.format.specs.Refusals.{Verdict}
use Rattle.format.specs.Promises.{read_record, answered}
use Rattle.c_rows.specs.Language.{spoken}
use Rattle.notice.specs.Notice.{ours, notices}
use Rattle.notice.specs.Record.{Whole, record_of as whole_of}
use Rattle.notice.specs.Promises.{housed, told_of}
use Rattle.notice.specs.declared.reading.Notice.{Notice}
use Rattle.notice.specs.declared.reading.Told.{Told}

-- source, station, serial, year, type, subtype, expiry, how many areas; then how many numbers these have, and bytes the text
abbrev pub row_of : Told → List ℤ
row_of r =
    pos r.notice.source
    ∷ pos r.notice.station
    ∷ pos r.notice.serial
    ∷ pos r.notice.year
    ∷ pos r.notice.kind
    ∷ pos r.notice.subtype
    ∷ pos r.notice.expiry
    ∷ pos r.notice.count
    ∷ pos r.numbers
    ∷ pos r.text
    ∷ []

-- what such a row tells
abbrev pub told_in_of : List ℤ → Told
told_in_of row = let at : ℕ → ℕ = λ i. nat_abs (get_or row i (pos 0)) in record {
  notice = record { source = at 0; station = at 1; serial = at 2; year = at 3; kind = at 4; subtype = at 5; expiry = at 6; count = at 7 };
  numbers = at 8;
  text = at 9;
}

-- the record of the numbers that the writing call is given
abbrev pub record_of : ℕ → ℕ → ℕ → ℕ → ℕ → ℕ → ℕ → ℕ → Notice
record_of source station serial year kind subtype expiry count = record {
  source = source;
  station = station;
  serial = serial;
  year = year;
  kind = kind;
  subtype = subtype;
  expiry = expiry;
  count = count;
}

-- a record for a row of so many entries, which must be ten (6, tested last)
abbrev pub roomy : ℕ → Out Whole → Out Whole
roomy row o = after o (λ x. check (or_bad (leb 10 row) 6) 0 (accepted x))

-- a refusal, or else that of a row too short
abbrev pub unroomed : Verdict → Verdict
unroomed own = cond (eqb own.code 0) (bare 6) own

-- the reading of the bytes s, for a row, areas and a text of these lengths
abbrev pub reading : ℕ → List ℕ → (row areas text : ℕ) → Out Whole
reading language s row areas text = spoken language (λ english. roomy row (housed areas text (read_record (notices (ours english)) whole_of s)))

-- an answer's refusal, and what it leaves of the row, the areas and the text
abbrev pub Lent : Out Whole → List ℤ → List ℕ → List ℕ → Verdict → List ℤ → List ℕ → List ℕ → Type 0
Lent o row areas text code row' areas' text' =
    (code ≡ told o)
    × (row' ≡ answered (λ x. row_of (told_of x) ++ drop 10 row) (λ c. row) o)
    × (areas' ≡ answered (λ x. ahead x.1.0 areas) (λ c. areas) o)
    × (text' ≡ answered (λ x. ahead x.1.1 text) (λ c. text) o)

-- what the reading call promises
abbrev pub NoticeFills : ℕ → List ℕ → List ℤ → List ℕ → List ℕ → Verdict → List ℤ → List ℕ → List ℕ → Type 0
NoticeFills language s row areas text = Lent (reading language s (length row) (length areas) (length text)) row areas text
