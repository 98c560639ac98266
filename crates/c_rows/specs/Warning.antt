-- A warning as numbers (paper 01, "AIS"). Assumes nothing.
use Rattle.std.specs.Prelude.{ℕ, List, [], ◌∷◌, ℤ}
use Rattle.warning.specs.Bodies.{type_of, body_kind}
use Rattle.warning.specs.declared.bodies.Body.{Body}
use Rattle.warning.specs.declared.bodies.Body.TheVariants.{Cyclone, Gale, Waves, Fog, Surge}
use Rattle.c_rows.specs.Row.{entries}
use Rattle.format.specs.Fmt.{Out, also}
use Rattle.format.specs.Promises.{read_record}
use Rattle.warning.specs.Warning.{warnings, record_of as read_as}
use Rattle.warning.specs.declared.reading.Warning.{Warning}
use Rattle.c_rows.specs.declared.warnings.Seven.{Seven}

-- a body's numbers, in the paper's order, and 0 behind them
abbrev pub four_of : ℕ → ℕ → ℕ → ℕ → Seven
four_of a b c d = record { first = a; second = b; third = c; fourth = d; fifth = 0; sixth = 0; seventh = 0 }

abbrev pub seven_of : Body → Seven
seven_of (Cyclone b) = record {
  first = b.kind;
  second = b.gale_radius;
  third = b.storm_radius;
  fourth = b.speed;
  fifth = b.direction;
  sixth = b.force;
  seventh = b.pressure;
}
seven_of (Gale b) = four_of b.radius b.least b.greatest b.direction
seven_of (Waves b) = four_of b.radius b.height b.period 0
seven_of (Fog b) = four_of b.radius b.visibility 0 0
seven_of (Surge b) = four_of b.radius b.rise b.tide b.period

-- a record's numbers, with those of its body
abbrev pub row_with : Warning → ℕ → Seven → List ℕ
row_with r type n =
    r.repeat
    ∷ r.source
    ∷ type
    ∷ r.longitude
    ∷ r.latitude
    ∷ n.first
    ∷ n.second
    ∷ n.third
    ∷ n.fourth
    ∷ n.fifth
    ∷ n.sixth
    ∷ n.seventh
    ∷ r.time.month
    ∷ r.time.day
    ∷ r.time.hour
    ∷ r.time.minute
    ∷ r.hours
    ∷ []

abbrev pub row_of : Warning → List ℕ
row_of r = row_with r (type_of (body_kind r.body)) (seven_of r.body)

-- the reading of the bytes s, as numbers
abbrev pub numbers_of : List ℕ → Out (List ℤ)
numbers_of s = also (λ r. entries (row_of r)) (read_record warnings read_as s)

-- ---- the record of the numbers that a writing call is given

abbrev pub record_of : ℕ → ℕ → ℕ → ℕ → Body → ℕ → ℕ → ℕ → ℕ → ℕ → Warning
record_of repeat source longitude latitude body month day hour minute hours = record {
  repeat = repeat;
  source = source;
  longitude = longitude;
  latitude = latitude;
  body = body;
  time = record { month = month; day = day; hour = hour; minute = minute };
  hours = hours;
}

abbrev pub cyclone_of : ℕ → ℕ → ℕ → ℕ → ℕ → ℕ → ℕ → Body
cyclone_of kind gale storm speed direction force pressure = Cyclone (record {
  kind = kind;
  gale_radius = gale;
  storm_radius = storm;
  speed = speed;
  direction = direction;
  force = force;
  pressure = pressure;
})

abbrev pub gale_of : ℕ → ℕ → ℕ → ℕ → Body
gale_of radius least greatest direction = Gale (record { radius = radius; least = least; greatest = greatest; direction = direction })

abbrev pub waves_of : ℕ → ℕ → ℕ → Body
waves_of radius height period = Waves (record { radius = radius; height = height; period = period })

abbrev pub fog_of : ℕ → ℕ → Body
fog_of radius visibility = Fog (record { radius = radius; visibility = visibility })

abbrev pub surge_of : ℕ → ℕ → ℕ → ℕ → Body
surge_of radius rise tide period = Surge (record { radius = radius; rise = rise; tide = tide; period = period })
