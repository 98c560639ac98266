-- The record of an area's values is the record that they were made of. Assumes nothing.
use Rattle.std.specs.Prelude.{◌≡◌, List, [], ◌∷◌, ℕ, ◌^◌}
use Rattle.std.proofs.Math.Path.{refl, ap}
use Rattle.std.proofs.Common.{◌∙◌, lit≤}
use Rattle.walk.specs.Laws.Sign.{int_spell}
use Rattle.ais_common.specs.Time.{time_of, short_of}
use Rattle.area.specs.Area.{record_of}
use Rattle.area.specs.Shapes.{Kind, circle, rectangle, kind_of, type_of, shape_kind, shape_values, shape_of}
use Rattle.area.specs.Steps.{Narrow}
use Rattle.area.specs.declared.reading.Area.{Area}
use Rattle.area.specs.declared.reading.shapes.Shape.{Shape}
use Rattle.area.specs.declared.reading.shapes.Shape.TheVariants.{Circle, Rectangle}

module _ (repeat source sequence destination resent kind type time second advice : ℕ) where
  abbrev pub laid : Shape → List ℕ
  laid b = 6 ∷ repeat ∷ source ∷ sequence ∷ destination ∷ resent ∷ 0 ∷ 412 ∷ 11 ∷ kind ∷ type ∷ shape_values b (time ∷ second ∷ advice ∷ 0 ∷ [])

  abbrev pub made : Shape → Area
  made b = record {
    repeat = repeat;
    source = source;
    sequence = sequence;
    destination = destination;
    resent = resent;
    kind = kind;
    shape = b;
    time = time_of time;
    second_time = short_of second;
    advice = advice;
  }

  -- values that a shape of the number `type` is laid in, where it fits its bits
  pub recorded : (b : Shape) → kind_of type ≡ shape_kind b → Narrow b → record_of (laid b) ≡ made b
  unfolding record_of
  recorded (Circle b) e (x, y) =
      let east = int_spell (2 ^ 28) b.longitude (lit≤ tt) refl x in
      let north = int_spell (2 ^ 27) b.latitude (lit≤ tt) refl y in
      ap made (ap (λ t. shape_of t (laid (Circle b))) e ∙ (λ i. Circle (record { longitude = east i; latitude = north i; radius = b.radius })))
  recorded (Rectangle b) e (x, y, z, w) =
      let east = int_spell (2 ^ 28) b.longitude (lit≤ tt) refl x in
      let north = int_spell (2 ^ 27) b.latitude (lit≤ tt) refl y in
      let east2 = int_spell (2 ^ 28) b.second_longitude (lit≤ tt) refl z in
      let north2 = int_spell (2 ^ 27) b.second_latitude (lit≤ tt) refl w in
      ap made (ap (λ t. shape_of t (laid (Rectangle b))) e ∙ (λ i. Rectangle (record { longitude = east i; latitude = north i; second_longitude = east2 i; second_latitude = north2 i })))

-- a kind is that of its own number
pub kind_type : (t : Kind) → kind_of (type_of t) ≡ t
kind_type circle = refl
kind_type rectangle = refl
