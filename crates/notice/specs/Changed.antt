-- The notice with one field changed, by the field's number (paper 01, "Correcting a field"): 0 to 6 in its head, 8 + j the row's number j. Assumes nothing.
use Rattle.std.specs.Prelude.{ℕ, ◌-◌, cond, List, [], ◌∷◌, ◌++◌, eqb, leb, get_or, set}
use Rattle.format.specs.Fmt.{Spot, none, found}
use Rattle.notice_fields.specs.Spots.{area_spots}
use Rattle.notice_fields.specs.Terms.{Point, our_point}
use Rattle.notice.specs.Record.{Whole}

-- the head's fields in bit order: where each that may be corrected stands, and its width
abbrev pub spots : List Spot
spots =
    found 0 5  -- 0 source
    ∷ found 5 4  -- 1 station
    ∷ found 9 14  -- 2 serial
    ∷ found 23 7  -- 3 year
    ∷ found 30 4  -- 4 type
    ∷ found 34 4  -- 5 subtype
    ∷ found 38 21  -- 6 expiry
    ∷ none  -- how many areas
    ∷ []

-- Where the field of number i stands, if it may be corrected: one of the head's, or a number of its areas, the first of which is at bit 63. The text stays.
abbrev pub spot_of : Point → Whole → ℕ → Spot
spot_of p x i = get_or (spots ++ area_spots p.latitude_bits p.longitude_bits x.0.count x.1.0 63) i none

abbrev pub our_spot : Whole → ℕ → Spot
our_spot = spot_of our_point

-- how many areas there are, and the text, stay
unfoldable pub changed : ℕ → ℕ → Whole → Whole
changed i v x = let r = x.0 in (
  record {
    source = cond (eqb i 0) v r.source;
    station = cond (eqb i 1) v r.station;
    serial = cond (eqb i 2) v r.serial;
    year = cond (eqb i 3) v r.year;
    kind = cond (eqb i 4) v r.kind;
    subtype = cond (eqb i 5) v r.subtype;
    expiry = cond (eqb i 6) v r.expiry;
    count = r.count;
  },
  (cond (leb 8 i) (set x.1.0 (i - 8) v) x.1.0, x.1.1),
)
