-- The report with one field changed, by the field's number (paper 01, "Correcting a field": the new value is the number that its bits spell). Assumes nothing.
use Rattle.std.specs.Prelude.{ℕ, ◌^◌, cond, List, [], ◌∷◌, eqb, get_or}
use Rattle.format.specs.Fmt.{Spot, none, found}
use Rattle.walk.specs.Sign.{int_of}
use Rattle.distress.specs.declared.reading.Report.{Report}

-- the fields in bit order: where each that may be corrected stands, and its width; the code and the fill may not be
abbrev pub spots : List Spot
spots =
    none  -- 0xBDC1
    ∷ found 16 32  -- 1 MMSI
    ∷ found 48 25  -- 2 longitude
    ∷ found 73 24  -- 3 latitude
    ∷ found 97 5  -- 4 day
    ∷ found 102 5  -- 5 hour
    ∷ found 107 6  -- 6 minute
    ∷ found 113 7  -- 7 speed
    ∷ found 120 9  -- 8 course
    ∷ found 129 4  -- 9 type
    ∷ none  -- fill
    ∷ []

abbrev pub spot_of : ℕ → Spot
spot_of i = get_or spots i none

unfoldable pub changed : ℕ → ℕ → Report → Report
changed i v r = record {
  mmsi = cond (eqb i 1) v r.mmsi;
  longitude = cond (eqb i 2) (int_of (2 ^ 25) v) r.longitude;
  latitude = cond (eqb i 3) (int_of (2 ^ 24) v) r.latitude;
  day = cond (eqb i 4) v r.day;
  hour = cond (eqb i 5) v r.hour;
  minute = cond (eqb i 6) v r.minute;
  speed = cond (eqb i 7) v r.speed;
  course = cond (eqb i 8) v r.course;
  kind = cond (eqb i 9) v r.kind;
}
