-- The record of a warning's values is the record that they were made of. Assumes nothing.
use Rattle.std.specs.Prelude.{◌≡◌, List, [], ◌∷◌, ℕ}
use Rattle.std.proofs.Math.Path.{refl}
use Rattle.warning.specs.Bodies.{Kind, cyclone, gale, waves, fog, surge, kind_of, type_of, body_kind, body_values}
use Rattle.warning.specs.declared.bodies.Body.{Body}
use Rattle.warning.specs.declared.bodies.Body.TheVariants.{Cyclone, Gale, Waves, Fog, Surge}
use Rattle.ais_common.specs.Time.{time_of}
use Rattle.warning.specs.Warning.{record_as}
use Rattle.warning.specs.declared.reading.Warning.{Warning}

module _ (repeat source type longitude latitude time hours : ℕ) where
  abbrev pub laid : Body → List ℕ
  laid b = 8 ∷ repeat ∷ source ∷ 0 ∷ 412 ∷ 3 ∷ type ∷ longitude ∷ latitude ∷ body_values b (time ∷ hours ∷ 0 ∷ [])

  abbrev made : Body → Warning
  made b = record { repeat = repeat; source = source; longitude = longitude; latitude = latitude; body = b; time = time_of time; hours = hours }

  -- values that a body of kind t is laid in
  pub recorded : (b : Body) (t : Kind) → t ≡ body_kind b → record_as t (laid b) ≡ made b
  unfolding record_as
  recorded b t e = rw e (go b)
    where
      go : (b : Body) → record_as (body_kind b) (laid b) ≡ made b
      go (Cyclone b) = refl
      go (Gale b) = refl
      go (Waves b) = refl
      go (Fog b) = refl
      go (Surge b) = refl

-- a kind is that of its own type
pub kind_type : (t : Kind) → kind_of (type_of t) ≡ t
kind_type cyclone = refl
kind_type gale = refl
kind_type waves = refl
kind_type fog = refl
kind_type surge = refl
