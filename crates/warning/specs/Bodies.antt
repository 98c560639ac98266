-- The five bodies of a warning, behind its position (paper 01, "AIS"; 003, tables 58 to 62 in that order). Assumes nothing.
use Rattle.std.specs.Prelude.{ℕ, cond, List, ◌∷◌, eqb, get_or}
use Rattle.format.specs.Fmt.{Fmt}
use Rattle.format.specs.Words.{◌‥◌, ◌▹◌, num, fill}
use Rattle.warning.specs.declared.bodies.Body.{Body}
use Rattle.warning.specs.declared.bodies.Body.TheVariants.{Cyclone, Gale, Waves, Fog, Surge}

pub data Kind : Type 0 where
  cyclone : Kind
  gale : Kind
  waves : Kind
  fog : Kind
  surge : Kind

-- by the warning type, which is 1 to 5
abbrev pub kind_of : ℕ → Kind
kind_of t = cond (eqb t 1) cyclone (cond (eqb t 2) gale (cond (eqb t 3) waves (cond (eqb t 4) fog surge)))

abbrev pub type_of : Kind → ℕ
type_of cyclone = 1
type_of gale = 2
type_of waves = 3
type_of fog = 4
type_of surge = 5

-- what stands behind the position: a number with all its bits' values for limits is carried
abbrev pub body : Kind → Fmt → Fmt
body cyclone f =
    num 3 (1 ‥ 4)  -- kind
    ▹ num 9 (0 ‥ 511)  -- radius of force 8
    ▹ num 9 (0 ‥ 511)  -- radius of force 10
    ▹ num 6 (0 ‥ 63)  -- speed
    ▹ num 9 (0 ‥ 511)  -- direction
    ▹ num 5 (0 ‥ 31)  -- force
    ▹ num 9 (0 ‥ 511)  -- pressure
    ▹ f
body gale f =
    num 8 (0 ‥ 255)  -- radius
    ▹ num 5 (0 ‥ 31)  -- least force
    ▹ num 5 (0 ‥ 31)  -- greatest force
    ▹ num 4 (1 ‥ 8)  -- direction
    ▹ fill 28
    ▹ f
body waves f =
    num 8 (0 ‥ 255)  -- radius
    ▹ num 5 (0 ‥ 31)  -- height
    ▹ num 13 (0 ‥ 8_191)  -- period
    ▹ fill 24
    ▹ f
body fog f =
    num 9 (0 ‥ 511)  -- radius
    ▹ num 8 (0 ‥ 250)  -- visibility
    ▹ fill 33
    ▹ f
body surge f =
    num 9 (0 ‥ 511)  -- radius
    ▹ num 9 (0 ‥ 511)  -- rise
    ▹ num 10 (0 ‥ 1_023)  -- tide
    ▹ num 13 (0 ‥ 8_191)  -- period
    ▹ fill 9
    ▹ f

-- how many values that is
abbrev pub body_long : Kind → ℕ
body_long cyclone = 7
body_long gale = 5
body_long waves = 4
body_long fog = 3
body_long surge = 5

-- ---- records

abbrev pub body_kind : Body → Kind
body_kind (Cyclone b) = cyclone
body_kind (Gale b) = gale
body_kind (Waves b) = waves
body_kind (Fog b) = fog
body_kind (Surge b) = surge

-- its values, in bit order, in front of others
abbrev pub body_values : Body → List ℕ → List ℕ
body_values (Cyclone b) l = b.kind ∷ b.gale_radius ∷ b.storm_radius ∷ b.speed ∷ b.direction ∷ b.force ∷ b.pressure ∷ l
body_values (Gale b) l = b.radius ∷ b.least ∷ b.greatest ∷ b.direction ∷ 0 ∷ l
body_values (Waves b) l = b.radius ∷ b.height ∷ b.period ∷ 0 ∷ l
body_values (Fog b) l = b.radius ∷ b.visibility ∷ 0 ∷ l
body_values (Surge b) l = b.radius ∷ b.rise ∷ b.tide ∷ b.period ∷ 0 ∷ l

-- the body of values that begin with its own
abbrev pub body_of : Kind → List ℕ → Body
body_of cyclone vs = Cyclone (record {
  kind = get_or vs 0 0;
  gale_radius = get_or vs 1 0;
  storm_radius = get_or vs 2 0;
  speed = get_or vs 3 0;
  direction = get_or vs 4 0;
  force = get_or vs 5 0;
  pressure = get_or vs 6 0;
})
body_of gale vs = Gale (record { radius = get_or vs 0 0; least = get_or vs 1 0; greatest = get_or vs 2 0; direction = get_or vs 3 0 })
body_of waves vs = Waves (record { radius = get_or vs 0 0; height = get_or vs 1 0; period = get_or vs 2 0 })
body_of fog vs = Fog (record { radius = get_or vs 0 0; visibility = get_or vs 1 0 })
body_of surge vs = Surge (record { radius = get_or vs 0 0; rise = get_or vs 1 0; tide = get_or vs 2 0; period = get_or vs 3 0 })
