-- A warning with one field changed, by the field's position among the values; and the numbers that name its fields (paper 01, "Correcting a field"). Assumes nothing.
use Rattle.std.specs.Prelude.{ℕ, cond, List, [], ◌∷◌, eqb, get_or}
use Rattle.warning.specs.Bodies.{Kind, cyclone, gale, waves, fog, surge, kind_of, type_of, body_kind}
use Rattle.warning.specs.declared.bodies.Body.{Body}
use Rattle.warning.specs.declared.bodies.Body.TheVariants.{Cyclone, Gale, Waves, Fog, Surge}
use Rattle.format.specs.Correcting.{entry_from, entry_of}
use Rattle.format.specs.Fmt.{Spot, none, found}
use Rattle.ais_common.specs.Time.{time_of}
use Rattle.warning.specs.Warning.{time_at, hours_at}
use Rattle.warning.specs.declared.reading.Warning.{Warning}

-- ---- where each field that may be corrected stands, and its width

abbrev pub body_spots : Kind → List Spot → List Spot
body_spots cyclone l = found 106 3 ∷ found 109 9 ∷ found 118 9 ∷ found 127 6 ∷ found 133 9 ∷ found 142 5 ∷ found 147 9 ∷ l
body_spots gale l = found 106 8 ∷ found 114 5 ∷ found 119 5 ∷ found 124 4 ∷ none ∷ l
body_spots waves l = found 106 8 ∷ found 114 5 ∷ found 119 13 ∷ none ∷ l
body_spots fog l = found 106 9 ∷ found 115 8 ∷ none ∷ l
body_spots surge l = found 106 9 ∷ found 115 9 ∷ found 124 10 ∷ found 134 13 ∷ none ∷ l

abbrev pub spots : Kind → List Spot
spots t =
    none  -- message
    ∷ found 6 2  -- 1 repeat
    ∷ found 8 30  -- 2 source
    ∷ none  -- fill
    ∷ none  -- 412
    ∷ none  -- 3
    ∷ none  -- warning type
    ∷ found 60 23  -- 7 longitude
    ∷ found 83 23  -- 8 latitude
    ∷ body_spots t (
    found 156 20  -- time
    ∷ found 176 6  -- hours
    ∷ none  -- fill
    ∷ [])

abbrev pub spot_of : Kind → ℕ → Spot
spot_of t i = get_or (spots t) i none

-- ---- the numbers that name fields, the same for every warning: which of its values each is, 0 (the message's number) for none of them

abbrev pub common : Kind → List ℕ
common t =
    0
    ∷ 1  -- 1 repeat
    ∷ 2  -- 2 source
    ∷ 7  -- 3 longitude
    ∷ 8  -- 4 latitude
    ∷ time_at t  -- 5 time
    ∷ hours_at t  -- 6 hours
    ∷ []

-- those of its body, and the number of the first of them
abbrev pub own : Kind → List ℕ
own cyclone = 9 ∷ 10 ∷ 11 ∷ 12 ∷ 13 ∷ 14 ∷ 15 ∷ []
own gale = 9 ∷ 10 ∷ 11 ∷ 12 ∷ []
own waves = 9 ∷ 10 ∷ 11 ∷ []
own fog = 9 ∷ 10 ∷ []
own surge = 9 ∷ 10 ∷ 11 ∷ 12 ∷ []

abbrev pub first : Kind → ℕ
first cyclone = 7
first gale = 14
first waves = 18
first fog = 21
first surge = 23

-- where the field of its body stands that has the number n
abbrev pub own_spot : Kind → ℕ → Spot
own_spot t n = spot_of t (entry_from (first t) (own t) n)

-- the field of number n in a warning of type t
abbrev pub field_of : ℕ → ℕ → ℕ
field_of t n = let k = kind_of t in entry_of 7 (common k) (first k) (own k) n

-- ---- the record with one of its values changed

abbrev pub changed_body : ℕ → ℕ → Body → Body
changed_body i v (Cyclone b) = Cyclone (record {
  kind = cond (eqb i 9) v b.kind;
  gale_radius = cond (eqb i 10) v b.gale_radius;
  storm_radius = cond (eqb i 11) v b.storm_radius;
  speed = cond (eqb i 12) v b.speed;
  direction = cond (eqb i 13) v b.direction;
  force = cond (eqb i 14) v b.force;
  pressure = cond (eqb i 15) v b.pressure;
})
changed_body i v (Gale b) = Gale (record {
  radius = cond (eqb i 9) v b.radius;
  least = cond (eqb i 10) v b.least;
  greatest = cond (eqb i 11) v b.greatest;
  direction = cond (eqb i 12) v b.direction;
})
changed_body i v (Waves b) = Waves (record { radius = cond (eqb i 9) v b.radius; height = cond (eqb i 10) v b.height; period = cond (eqb i 11) v b.period })
changed_body i v (Fog b) = Fog (record { radius = cond (eqb i 9) v b.radius; visibility = cond (eqb i 10) v b.visibility })
changed_body i v (Surge b) = Surge (record {
  radius = cond (eqb i 9) v b.radius;
  rise = cond (eqb i 10) v b.rise;
  tide = cond (eqb i 11) v b.tide;
  period = cond (eqb i 12) v b.period;
})

unfoldable pub changed : ℕ → ℕ → Warning → Warning
changed i v r = let t = body_kind r.body in record {
  repeat = cond (eqb i 1) v r.repeat;
  source = cond (eqb i 2) v r.source;
  longitude = cond (eqb i 7) v r.longitude;
  latitude = cond (eqb i 8) v r.latitude;
  body = changed_body i v r.body;
  time = cond (eqb i (time_at t)) (time_of v) r.time;
  hours = cond (eqb i (hours_at t)) v r.hours;
}

-- ---- a field by its number: where it stands in the record, and the record with it changed

abbrev pub named_by : Warning → ℕ → ℕ
named_by r = field_of (type_of (body_kind r.body))

abbrev pub spot_by : Warning → ℕ → Spot
spot_by r n = spot_of (body_kind r.body) (named_by r n)

abbrev pub changed_by : ℕ → ℕ → Warning → Warning
changed_by n v r = changed (named_by r n) v r
