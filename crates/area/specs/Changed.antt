-- An area with one field changed, by the field's position among the values; and the numbers that name its fields (paper 01, "Correcting a field"). Assumes nothing.
use Rattle.std.specs.Prelude.{ℕ, cond, List, [], ◌∷◌, eqb, get_or}
use Rattle.format.specs.Correcting.{entry_from, entry_of}
use Rattle.format.specs.Fmt.{Spot, none, found}
use Rattle.ais_common.specs.Time.{time_of, short_of}
use Rattle.area.specs.Shapes.{Kind, circle, rectangle, kind_of, type_of, shape_kind, east_of, north_of}
use Rattle.area.specs.declared.reading.Area.{Area}
use Rattle.area.specs.declared.reading.shapes.Shape.{Shape}
use Rattle.area.specs.declared.reading.shapes.Shape.TheVariants.{Circle, Rectangle}

-- ---- where each field that may be corrected stands, and its width

abbrev pub shape_spots : Kind → List Spot → List Spot
shape_spots circle l = found 94 28 ∷ found 122 27 ∷ found 149 7 ∷ none ∷ l
shape_spots rectangle l = found 94 28 ∷ found 122 27 ∷ found 149 28 ∷ found 177 27 ∷ l

abbrev pub spots : Kind → List Spot
spots t =
    none  -- message
    ∷ found 6 2  -- 1 repeat
    ∷ found 8 30  -- 2 source
    ∷ found 38 2  -- 3 sequence
    ∷ found 40 30  -- 4 destination
    ∷ found 70 1  -- 5 resent
    ∷ none  -- fill
    ∷ none  -- 412
    ∷ none  -- 11
    ∷ found 88 4  -- 9 area kind
    ∷ none  -- shape
    ∷ shape_spots t ( -- 11 to 14
    found 204 20  -- 15 time
    ∷ found 224 14  -- 16 second time
    ∷ found 238 4  -- 17 advice
    ∷ none  -- fill
    ∷ [])

abbrev pub spot_of : Kind → ℕ → Spot
spot_of t i = get_or (spots t) i none

-- ---- the numbers that name fields, the same for every area: which of its values each is, 0 (the message's number) for none of them

abbrev pub common : List ℕ
common =
    0
    ∷ 1  -- 1 repeat
    ∷ 2  -- 2 source
    ∷ 3  -- 3 sequence
    ∷ 4  -- 4 destination
    ∷ 5  -- 5 resent
    ∷ 9  -- 6 area kind
    ∷ 11  -- 7 longitude
    ∷ 12  -- 8 latitude
    ∷ 15  -- 9 time
    ∷ 16  -- 10 second time
    ∷ 17  -- 11 advice
    ∷ []

-- those of its shape, and the number of the first of them
abbrev pub own : Kind → List ℕ
own circle = 13 ∷ []
own rectangle = 13 ∷ 14 ∷ []

abbrev pub first : Kind → ℕ
first circle = 12
first rectangle = 13

-- where the field of its shape stands that has the number n
abbrev pub own_spot : Kind → ℕ → Spot
own_spot t n = spot_of t (entry_from (first t) (own t) n)

-- the field of number n in an area whose shape has the number t
abbrev pub field_of : ℕ → ℕ → ℕ
field_of t n = let k = kind_of t in entry_of 12 common (first k) (own k) n

-- ---- the record with one of its values changed

abbrev pub changed_shape : ℕ → ℕ → Shape → Shape
changed_shape i v (Circle b) = Circle (record {
  longitude = cond (eqb i 11) (east_of v) b.longitude;
  latitude = cond (eqb i 12) (north_of v) b.latitude;
  radius = cond (eqb i 13) v b.radius;
})
changed_shape i v (Rectangle b) = Rectangle (record {
  longitude = cond (eqb i 11) (east_of v) b.longitude;
  latitude = cond (eqb i 12) (north_of v) b.latitude;
  second_longitude = cond (eqb i 13) (east_of v) b.second_longitude;
  second_latitude = cond (eqb i 14) (north_of v) b.second_latitude;
})

unfoldable pub changed : ℕ → ℕ → Area → Area
changed i v r = record {
  repeat = cond (eqb i 1) v r.repeat;
  source = cond (eqb i 2) v r.source;
  sequence = cond (eqb i 3) v r.sequence;
  destination = cond (eqb i 4) v r.destination;
  resent = cond (eqb i 5) v r.resent;
  kind = cond (eqb i 9) v r.kind;
  shape = changed_shape i v r.shape;
  time = cond (eqb i 15) (time_of v) r.time;
  second_time = cond (eqb i 16) (short_of v) r.second_time;
  advice = cond (eqb i 17) v r.advice;
}

-- ---- a field by its number: where it stands in the record, and the record with it changed

abbrev pub named_by : Area → ℕ → ℕ
named_by r = field_of (type_of (shape_kind r.shape))

abbrev pub spot_by : Area → ℕ → Spot
spot_by r n = spot_of (shape_kind r.shape) (named_by r n)

abbrev pub changed_by : ℕ → ℕ → Area → Area
changed_by n v r = changed (named_by r n) v r
