-- The frame TXXX with one field changed, by the field's number (paper 01, "Correcting a field"). Assumes nothing.
use Rattle.std.specs.Prelude.{ℕ, ◌+◌, ◌*◌, cond, List, [], ◌∷◌, eqb, get_or}
use Rattle.frame.specs.Frame.{bytes_for}
use Rattle.format.specs.Fmt.{Spot, none, found}
use Rattle.txxx.specs.declared.reading.Txxx.{Txxx}

-- the fields in bit order, where the mark stands at bit m: where each that may be corrected stands, and its width
abbrev pub spots_by : ℕ → List Spot
spots_by m =
    none  -- `$`
    ∷ none  -- letters
    ∷ none  -- length
    ∷ found 56 24  -- 3 own address
    ∷ found 80 8  -- 4 class
    ∷ found 88 24  -- 5 sender
    ∷ found 112 8  -- 6 hour
    ∷ found 120 8  -- 7 minute
    ∷ none  -- bit length
    ∷ none  -- content
    ∷ none  -- fill
    ∷ found m 8  -- 11 CRC mark
    ∷ []

abbrev pub spot_by : ℕ → ℕ → Spot
spot_by m i = get_or (spots_by m) i none

-- the same of a frame with l bits of content
abbrev pub spots : ℕ → List Spot
spots l = spots_by (144 + bytes_for l * 8)

abbrev pub spot_of : Txxx × List ℕ → ℕ → Spot
spot_of r i = get_or (spots r.0.size) i none

-- the content stays
unfoldable pub changed : ℕ → ℕ → Txxx × List ℕ → Txxx × List ℕ
changed i v x = let r = x.0 in (
  record {
    address = cond (eqb i 3) v r.address;
    class = cond (eqb i 4) v r.class;
    sender = cond (eqb i 5) v r.sender;
    hour = cond (eqb i 6) v r.hour;
    minute = cond (eqb i 7) v r.minute;
    size = r.size;
    mark = cond (eqb i 11) v r.mark;
  },
  x.1,
)
