-- What the code's steps leave: reading the fields before the shape stands at it, bit 94; over a shape, where reading, judging or putting stood at it, it stands behind it, bit 204. Assumes nothing.
use Rattle.std.specs.Prelude.{ℕ, ◌+◌, ◌<◌, ◌^◌, ◌≡◌, Bool, ℤ, Result, Ok, Err}
use mathlib.Core.List.{List, [], ◌∷◌, reverse_aux}
use Rattle.bits.specs.Bits.{bits_of}
use Rattle.format.specs.declared.Refusal.{Refusal}
use Rattle.format.specs.Fmt.{Out, Fmt, also, read}
use Rattle.format.specs.Promises.{plain, refused_by}
use Rattle.format.specs.Refusals.{seen_refusal}
use Rattle.format.specs.Laws.Putting.{Putting}
use Rattle.walk.specs.Reading.{signedly}
use Rattle.walk.specs.Laws.Judging.{Judging}
use Rattle.walk.specs.Laws.Step.{Reading}
use Rattle.walk.specs.Walk.{Walk, seen}
use Rattle.area.specs.Shapes.{Kind, kind_of, type_of, point, shape, spell_east, spell_north, shape_kind, shape_values}
use Rattle.area.specs.Area.{tail, area, record_of}
use Rattle.area.specs.declared.reading.Opened.{Opened}
use Rattle.area.specs.declared.reading.shapes.Shape.{Shape}
use Rattle.area.specs.declared.reading.shapes.Shape.TheVariants.{Circle, Rectangle}

-- the values before the shape, in bit order, in front of others
abbrev opening : Opened → List ℕ → List ℕ
opening g vs = 6 ∷ g.repeat ∷ g.source ∷ g.sequence ∷ g.destination ∷ g.resent ∷ 0 ∷ 412 ∷ 11 ∷ g.kind ∷ g.walk.v ∷ vs

-- they were read, or a refusal among them is the whole reading's
abbrev pub OpeningRead : List ℕ → Result Opened Refusal → Type 0
OpeningRead s (Ok g) = Reading (read area [] 0 (bits_of s)) area 0 s (shape (kind_of g.walk.v) tail) (reverse_aux (opening g []) []) 94 (opening g) (seen g.walk)
OpeningRead s (Err f) = refused_by (seen_refusal f) ≡ plain (also record_of (read area [] 0 (bits_of s)))

-- the walk past a longitude, and past a latitude
abbrev pub east_read : List ℕ → Walk → Walk
east_read s r = signedly s 28 108_000_000 160_435_456 108_600_000 r

abbrev pub north_read : List ℕ → Walk → Walk
north_read s r = signedly s 27 54_000_000 80_217_728 54_600_000 r

-- the values of a shape, the latest first, in front of h
abbrev backwards : Shape → List ℕ → List ℕ
backwards b h = reverse_aux (shape_values b []) h

-- a shape whose positions fit their bits
abbrev pub Narrow : Shape → Type 0
Narrow (Circle b) = (spell_east b.longitude < 2 ^ 28) × (spell_north b.latitude < 2 ^ 27)
Narrow (Rectangle b) = (spell_east b.longitude < 2 ^ 28) × (spell_north b.latitude < 2 ^ 27) × (spell_east b.second_longitude < 2 ^ 28) × (spell_north b.second_latitude < 2 ^ 27)

-- the layout of a shape in front of f, by its number
abbrev shaped : Shape → Fmt → Fmt
shaped b = shape (kind_of (type_of (shape_kind b)))

-- a shape of kind t was read
pub record ShapeRead (s : List ℕ) (t : Kind) (r g : Walk) (b : Shape) : Type 0 where
  pub kind : shape_kind b ≡ t
  pub narrow : Narrow b
  pub on : {o : Out (List ℕ)} {all f : Fmt} {i : ℕ} {h : List ℕ} {k : List ℕ → List ℕ} → Reading o all i s (shape t f) h 94 k r
      → Reading o all i s f (backwards b h) 204 (λ vs. k (shape_values b vs)) g

-- a position was judged, wherever it stands
pub record PointJudged (x y : ℤ) (r g : Walk) : Type 0 where
  pub on : {o : Out (List Bool)} {f : Fmt} {h vs : List ℕ} {at : ℕ} → at + 28 < 2 ^ 64 → at + 28 + 27 < 2 ^ 64 → Judging o (point f) h at (spell_east x ∷ spell_north y ∷ vs) r
      → Judging o f (spell_north y ∷ spell_east x ∷ h) (at + 28 + 27) vs g

-- a shape was judged
pub record ShapeJudged (b : Shape) (r g : Walk) : Type 0 where
  pub on : {o : Out (List Bool)} {f : Fmt} {h vs : List ℕ} → Judging o (shaped b f) h 94 (shape_values b vs) r → Judging o f (backwards b h) 204 vs g

-- a shape was put
pub record ShapePut (b : Shape) (t u : List ℕ) : Type 0 where
  pub on : {s : List ℕ} {l : List Bool} {f : Fmt} {vs : List ℕ} → Putting s l (shaped b f) 94 (shape_values b vs) t → Putting s l f 204 vs u
