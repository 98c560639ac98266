-- A notice as a record, with the numbers of its areas in a row and its text as bytes: their values in bit order, and back. Assumes nothing.
use Rattle.std.specs.Prelude.{ℕ, ◌-◌, ◌*◌, List, [], ◌∷◌, ◌++◌, length, take, drop, get_or}
use Rattle.bits.specs.Bits.{value_of, digits, bits_of, bytes_of}
use Rattle.notice_fields.specs.Row.{areas_told}
use Rattle.notice.specs.declared.reading.Notice.{Notice}

-- the record, its areas, its text
abbrev pub Whole : Type 0
Whole = Notice × (List ℕ × List ℕ)

-- the head's values before those that follow
abbrev pub headed : Notice → List ℕ → List ℕ
headed r l = r.source ∷ r.station ∷ r.serial ∷ r.year ∷ r.kind ∷ r.subtype ∷ r.expiry ∷ r.count ∷ l

-- a text's: how many bytes, and the number that they spell
abbrev pub texted : List ℕ → List ℕ
texted t = length t ∷ value_of (bits_of t) ∷ []

unfoldable pub values_of : Whole → List ℕ
values_of x = headed x.0 (areas_told x.0.count x.1.0 ++ texted x.1.1)

unfoldable pub head_of : List ℕ → Notice
head_of vs = record {
  source = get_or vs 0 0;
  station = get_or vs 1 0;
  serial = get_or vs 2 0;
  year = get_or vs 3 0;
  kind = get_or vs 4 0;
  subtype = get_or vs 5 0;
  expiry = get_or vs 6 0;
  count = get_or vs 7 0;
}

-- the text of n bytes that the number v spells
unfoldable pub text_of : ℕ → ℕ → List ℕ
text_of n v = bytes_of n (digits (n * 8) v)

-- behind eight values stand the areas', and last the text's two
unfoldable pub record_of : List ℕ → Whole
record_of vs = (head_of vs, (take (length vs - 10) (drop 8 vs), text_of (get_or vs (length vs - 2) 0) (get_or vs (length vs - 1) 0)))
