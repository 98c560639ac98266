-- The two shapes of an area, 110 bits (paper 01, "AIS"; 003, tables 39 and 40). Assumes nothing.
use Rattle.std.specs.Prelude.{ℕ, ◌^◌, cond, List, ◌∷◌, eqb, ℤ, get_or}
use Rattle.walk.specs.Sign.{int_of, spell_of}
use Rattle.format.specs.Fmt.{Fmt}
use Rattle.format.specs.Words.{◌‥◌, signed, ◌▹◌, num, fill}
use Rattle.area.specs.declared.reading.shapes.Shape.{Shape}
use Rattle.area.specs.declared.reading.shapes.Shape.TheVariants.{Circle, Rectangle}

pub data Kind : Type 0 where
  circle : Kind
  rectangle : Kind

-- by the shape's number, which is 1 or 2
abbrev pub kind_of : ℕ → Kind
kind_of t = cond (eqb t 1) circle rectangle

abbrev pub type_of : Kind → ℕ
type_of circle = 1
type_of rectangle = 2

-- a position, in ten-thousandths of a minute
abbrev pub point : Fmt → Fmt
point f =
    num 28 (signed 28 108_000_000 108_600_000)  -- longitude
    ▹ num 27 (signed 27 54_000_000 54_600_000)  -- latitude
    ▹ f

abbrev pub shape : Kind → Fmt → Fmt
shape circle f =
    point  -- centre
    ▹ num 7 (0 ‥ 127)  -- radius
    ▹ fill 48
    ▹ f
shape rectangle f =
    point  -- one corner
    ▹ point  -- the other
    ▹ f

-- ---- records

abbrev pub spell_east : ℤ → ℕ
spell_east = spell_of (2 ^ 28)

abbrev pub spell_north : ℤ → ℕ
spell_north = spell_of (2 ^ 27)

abbrev pub east_of : ℕ → ℤ
east_of = int_of (2 ^ 28)

abbrev pub north_of : ℕ → ℤ
north_of = int_of (2 ^ 27)

abbrev pub shape_kind : Shape → Kind
shape_kind (Circle b) = circle
shape_kind (Rectangle b) = rectangle

-- its values, in bit order, in front of others
abbrev pub shape_values : Shape → List ℕ → List ℕ
shape_values (Circle b) l = spell_east b.longitude ∷ spell_north b.latitude ∷ b.radius ∷ 0 ∷ l
shape_values (Rectangle b) l = spell_east b.longitude ∷ spell_north b.latitude ∷ spell_east b.second_longitude ∷ spell_north b.second_latitude ∷ l

-- the shape whose values stand from number 11 on
abbrev pub shape_of : Kind → List ℕ → Shape
shape_of circle vs = Circle (record { longitude = east_of (get_or vs 11 0); latitude = north_of (get_or vs 12 0); radius = get_or vs 13 0 })
shape_of rectangle vs = Rectangle (record {
  longitude = east_of (get_or vs 11 0);
  latitude = north_of (get_or vs 12 0);
  second_longitude = east_of (get_or vs 13 0);
  second_latitude = north_of (get_or vs 14 0);
})
