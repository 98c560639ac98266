-- An area as numbers (paper 01, "AIS"). Assumes nothing.
use Rattle.std.specs.Prelude.{ℕ, List, [], ◌∷◌, ℤ, pos}
use Rattle.area.specs.Area.{areas, record_of as read_as}
use Rattle.area.specs.Shapes.{type_of, shape_kind}
use Rattle.area.specs.declared.reading.Area.{Area}
use Rattle.area.specs.declared.reading.shapes.Shape.{Shape}
use Rattle.area.specs.declared.reading.shapes.Shape.TheVariants.{Circle, Rectangle}
use Rattle.format.specs.Fmt.{Out, also}
use Rattle.format.specs.Promises.{read_record}
use Rattle.c_rows.specs.declared.areas.Four.{Four}

-- a shape's numbers, in the paper's order, and 0 behind a circle's
abbrev pub four_of : Shape → Four
four_of (Circle b) = record { longitude = b.longitude; latitude = b.latitude; third = pos b.radius; fourth = pos 0 }
four_of (Rectangle b) = record { longitude = b.longitude; latitude = b.latitude; third = b.second_longitude; fourth = b.second_latitude }

-- a record's numbers, with those of its shape
abbrev pub row_with : Area → ℕ → Four → List ℤ
row_with r type n =
    pos r.repeat
    ∷ pos r.source
    ∷ pos r.sequence
    ∷ pos r.destination
    ∷ pos r.resent
    ∷ pos r.kind
    ∷ pos type
    ∷ n.longitude
    ∷ n.latitude
    ∷ n.third
    ∷ n.fourth
    ∷ pos r.time.month
    ∷ pos r.time.day
    ∷ pos r.time.hour
    ∷ pos r.time.minute
    ∷ pos r.second_time.month
    ∷ pos r.second_time.day
    ∷ pos r.second_time.hour
    ∷ pos r.advice
    ∷ []

abbrev pub row_of : Area → List ℤ
row_of r = row_with r (type_of (shape_kind r.shape)) (four_of r.shape)

-- the reading of the bytes s, as numbers
abbrev pub numbers_of : List ℕ → Out (List ℤ)
numbers_of s = also row_of (read_record areas read_as s)

-- ---- the record of the numbers that a writing call is given

abbrev pub record_of : ℕ → ℕ → ℕ → ℕ → ℕ → ℕ → Shape → ℕ → ℕ → ℕ → ℕ → ℕ → ℕ → ℕ → ℕ → Area
record_of repeat source sequence destination resent kind shape month day hour minute second-month second-day second-hour advice = record {
  repeat = repeat;
  source = source;
  sequence = sequence;
  destination = destination;
  resent = resent;
  kind = kind;
  shape = shape;
  time = record { month = month; day = day; hour = hour; minute = minute };
  second_time = record { month = second-month; day = second-day; hour = second-hour };
  advice = advice;
}

abbrev pub circle_of : ℤ → ℤ → ℕ → Shape
circle_of longitude latitude radius = Circle (record { longitude = longitude; latitude = latitude; radius = radius })

abbrev pub rectangle_of : ℤ → ℤ → ℤ → ℤ → Shape
rectangle_of longitude latitude second-longitude second-latitude = Rectangle (record {
  longitude = longitude;
  latitude = latitude;
  second_longitude = second-longitude;
  second_latitude = second-latitude;
})
