-- The packet with one field changed, by the field's number (paper 01, "Correcting a field"). Assumes nothing.
use Rattle.std.specs.Prelude.{ℕ, cond, List, [], ◌∷◌, ◌==◌, slice_index_or}
use Rattle.format.specs.Fmt.{Spot, none, found}
use Rattle.packet.specs.declared.reading.Packet.{Packet}

-- the fields in bit order: where each that may be corrected stands, and its width
abbrev pub spots : List Spot
spots =
    none  -- 0xE1
    ∷ none  -- version
    ∷ found 11 1  -- 2 language
    ∷ found 12 8  -- 3 message number
    ∷ found 20 6  -- 4 total
    ∷ found 26 6  -- 5 own number
    ∷ none  -- how many bytes of content
    ∷ none  -- content
    ∷ []

abbrev pub spot_of : ℕ → Spot
spot_of i = slice_index_or spots i none

-- the content stays
unfoldable pub changed : ℕ → ℕ → Packet × List ℕ → Packet × List ℕ
changed i v x = let r = x.0 in (
  record {
    language = cond (i == 2) v r.language;
    number = cond (i == 3) v r.number;
    total = cond (i == 4) v r.total;
    own = cond (i == 5) v r.own;
  },
  x.1,
)
