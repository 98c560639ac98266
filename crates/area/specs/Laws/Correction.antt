-- An area with one field changed has the values with that one changed, and its fields stand where `spots` says, whatever their numbers. Assumes nothing.
use Rattle.std.specs.Prelude.{◌≡◌, true, cond, List, [], ◌∷◌, ℕ, ◌≤◌, ◌<◌, ◌^◌, eqb, ltb, ℤ, get_or, set}
use Rattle.std.proofs.Math.Path.{refl, sym, subst⁻¹}
use Rattle.std.proofs.Common.{ap, ◌∙◌, lit≤}
use Rattle.walk.specs.Laws.Sign.{spell_int}
use Rattle.format.specs.Correcting.{entry_of}
use Rattle.format.specs.Fmt.{Spot, none, found, spot}
use Rattle.format.specs.Words.{wide}
use Rattle.format.specs.Laws.Spots.{spots_along, spot_along, each_at, set_each, kept_entry, spelled_entry, Unnamed, picks, common_at, not_common, not_own}
use Rattle.ais_common.specs.Time.{spell_time, time_of, spell_short, short_of}
use Rattle.ais_common.specs.Laws.Spelling.{spell_time_lem, spell_short_lem}
use Rattle.area.specs.Area.{area, areas, headed, values_as, values_of}
use Rattle.area.specs.Changed.{spots, spot_of, common, own, first, own_spot, changed_shape, changed}
use Rattle.area.specs.Shapes.{Kind, circle, rectangle, type_of, spell_east, spell_north, east_of, north_of, shape_kind, shape_values}
use Rattle.area.specs.declared.reading.Area.{Area}
use Rattle.area.specs.declared.reading.shapes.Shape.{Shape}
use Rattle.area.specs.declared.reading.shapes.Shape.TheVariants.{Circle, Rectangle}

-- where each field stands hangs on the kind of shape alone
along : (r : Area) → spots_along areas.fmt [] (values_of r) 0 ≡ spots (shape_kind r.shape)
unfolding areas area values_as spots_along wide
along r = go r.shape
  where
    go : (b : Shape) → spots_along area [] (headed r (type_of (shape_kind b)) (shape_values b (spell_time r.time ∷ spell_short r.second_time ∷ r.advice ∷ 0 ∷ []))) 0 ≡ spots (shape_kind b)
    go (Circle b) = refl
    go (Rectangle b) = refl

pub spotted : (r : Area) (i : ℕ) → spot areas.fmt [] (values_of r) i ≡ spot_of (shape_kind r.shape) i
spotted r i = spot_along areas.fmt (values_of r) i ∙ ap (λ t. get_or t i none) (along r)

-- ---- by number

-- the fields that every area has
abbrev pub named : List Spot
named =
    none ∷ found 6 2 ∷ found 8 30 ∷ found 38 2 ∷ found 40 30 ∷ found 70 1 ∷ found 88 4 ∷ found 94 28 ∷ found 122 27 ∷ found 204 20 ∷ found 224 14 ∷ found 238 4 ∷ []

every : (t : Kind) → (picks (spots t) common ≡ named) × (12 ≤ first t)
unfolding picks
every circle = (refl, lit≤ tt)
every rectangle = (refl, lit≤ tt)

module _ (t : Kind) (n : ℕ) where
  pub common_found : (m : ℕ) → n ≡ m → ltb m 12 ≡ true → spot_of t (entry_of 12 common (first t) (own t) n) ≡ get_or named m none
  common_found m e below = common_at (spots t) 12 (first t) common (own t) refl n m e below ∙ ap (λ l. get_or l m none) (every t).0

  pub not_every : Unnamed Unit named 0 n → spot_of t (entry_of 12 common (first t) (own t) n) ≡ own_spot t n
  not_every x = not_common (spots t) 12 (first t) common (own t) refl n (every t).1 (subst⁻¹ (λ l. Unnamed Unit l 0 n) (every t).0 x)

  pub not_named : Unnamed Unit (picks (spots t) (own t)) (first t) n → own_spot t n ≡ none
  not_named x = not_own (spots t) 12 (first t) common (own t) refl n x

-- ---- the changed record

-- The changed record has the changed list of values.
module _ (i v p w : ℕ) (l : v < 2 ^ w) where
  abbrev f : ℕ → ℕ → ℕ
  f k x = cond (eqb i k) v x

  east : (t : Kind) (k q : ℕ) → spot_of t i ≡ found p w → spot_of t k ≡ found q 28 → (x : ℤ) → spell_east (cond (eqb i k) (east_of v) x) ≡ f k (spell_east x)
  east t k q e s = spelled_entry spell_east east_of (spot_of t) i v e l k q 28 s (spell_int (2 ^ 28) v (lit≤ tt) refl)

  north : (t : Kind) (k q : ℕ) → spot_of t i ≡ found p w → spot_of t k ≡ found q 27 → (x : ℤ) → spell_north (cond (eqb i k) (north_of v) x) ≡ f k (spell_north x)
  north t k q e s = spelled_entry spell_north north_of (spot_of t) i v e l k q 27 s (spell_int (2 ^ 27) v (lit≤ tt) refl)

  -- where the values behind the shape stand, whatever it is
  ends : (t : Kind) → (spot_of t 15 ≡ found 204 20) × (spot_of t 16 ≡ found 224 14) × (spot_of t 18 ≡ none)
  ends circle = (refl, refl, refl)
  ends rectangle = (refl, refl, refl)

  module _ (r : Area) where
    -- the values up to the shape, in front of others
    before : (t : Kind) → spot_of t i ≡ found p w → {us ws : List ℕ} → us ≡ ws
        → headed (changed i v r) (type_of t) us
        ≡ f 0 6 ∷ f 1 r.repeat ∷ f 2 r.source ∷ f 3 r.sequence ∷ f 4 r.destination ∷ f 5 r.resent ∷ f 6 0 ∷ f 7 412 ∷ f 8 11 ∷ f 9 r.kind ∷ f 10 (type_of t) ∷ ws
    unfolding changed
    before t e q =
        let kept = kept_entry (spot_of t) i v e in
        λ y. kept 0 6 refl y ∷ f 1 r.repeat ∷ f 2 r.source ∷ f 3 r.sequence ∷ f 4 r.destination ∷ f 5 r.resent ∷ kept 6 0 refl y ∷ kept 7 412 refl y ∷ kept 8 11 refl y ∷ f 9 r.kind ∷ kept 10 (type_of t) refl y ∷ q y

    -- those behind it
    behind : (t : Kind) → spot_of t i ≡ found p w
        → spell_time (cond (eqb i 15) (time_of v) r.time) ∷ spell_short (cond (eqb i 16) (short_of v) r.second_time) ∷ f 17 r.advice ∷ 0 ∷ []
        ≡ f 15 (spell_time r.time) ∷ f 16 (spell_short r.second_time) ∷ f 17 r.advice ∷ f 18 0 ∷ []
    behind t e =
        let (x, y, z) = ends t in
        let first = spelled_entry spell_time time_of (spot_of t) i v e l 15 204 20 x (spell_time_lem v) r.time in
        let second = spelled_entry spell_short short_of (spot_of t) i v e l 16 224 14 y (spell_short_lem v) r.second_time in
        λ y. first y ∷ second y ∷ f 17 r.advice ∷ kept_entry (spot_of t) i v e 18 0 z y ∷ []

    pub changed_values : spot_of (shape_kind r.shape) i ≡ found p w → values_of (changed i v r) ≡ set (values_of r) i v
    unfolding values_as changed each_at
    changed_values e = go r.shape e ∙ sym (set_each i v (values_of r))
      where
        go : (b : Shape) → spot_of (shape_kind b) i ≡ found p w
            → headed (changed i v r) (type_of (shape_kind (changed_shape i v b)))
            (shape_values (changed_shape i v b) (spell_time (cond (eqb i 15) (time_of v) r.time) ∷ spell_short (cond (eqb i 16) (short_of v) r.second_time) ∷ f 17 r.advice ∷ 0 ∷ []))
            ≡ each_at i v 0 (headed r (type_of (shape_kind b)) (shape_values b (spell_time r.time ∷ spell_short r.second_time ∷ r.advice ∷ 0 ∷ [])))
        go (Circle b) e = before circle e (λ y.
            east circle 11 94 e refl b.longitude y ∷ north circle 12 122 e refl b.latitude y ∷ f 13 b.radius ∷ kept_entry (spot_of circle) i v e 14 0 refl y ∷ behind circle e y)
        go (Rectangle b) e = before rectangle e (λ y.
            east rectangle 11 94 e refl b.longitude y ∷ north rectangle 12 122 e refl b.latitude y ∷ east rectangle 13 149 e refl b.second_longitude y ∷ north rectangle 14 177 e refl b.second_latitude y ∷ behind rectangle e y)
