-- The distress report as numbers (paper 01, "Distress report"). Assumes nothing.
use Rattle.std.specs.Prelude.{ℕ, List, [], ◌∷◌, ℤ, pos}
use Rattle.format.specs.Fmt.{Out, also}
use Rattle.format.specs.Promises.{read_record}
use Rattle.distress.specs.Report.{reports, report_of}
use Rattle.distress.specs.declared.reading.Report.{Report}

-- a record's numbers, in the paper's order
abbrev pub row_of : Report → List ℤ
row_of r =
    pos r.mmsi
    ∷ r.longitude
    ∷ r.latitude
    ∷ pos r.day
    ∷ pos r.hour
    ∷ pos r.minute
    ∷ pos r.speed
    ∷ pos r.course
    ∷ pos r.kind
    ∷ []

-- the reading of the bytes s, as numbers
abbrev pub numbers_of : List ℕ → Out (List ℤ)
numbers_of s = also row_of (read_record reports report_of s)

-- the record of the numbers that a writing call is given
abbrev pub record_of : ℕ → ℤ → ℤ → ℕ → ℕ → ℕ → ℕ → ℕ → ℕ → Report
record_of mmsi longitude latitude day hour minute speed course kind = record {
  mmsi = mmsi;
  longitude = longitude;
  latitude = latitude;
  day = day;
  hour = hour;
  minute = minute;
  speed = speed;
  course = course;
  kind = kind;
}
