-- A warning with one field changed has the values with that one changed, and its fields stand where `spots` says, whatever their numbers. Assumes nothing.
use Rattle.std.specs.Prelude.{◌≡◌, refl, true, cond, List, [], ◌∷◌, ℕ, suc, ◌≤◌, ◌<◌, ◌^◌, eqb, ltb, get_or, set}
use Rattle.std.proofs.Common.{sym, ap, ◌∙◌, lit≤}
use Rattle.std.proofs.Math.Path.{subst⁻¹}
use Rattle.warning.specs.Bodies.{Kind, cyclone, gale, waves, fog, surge, type_of, body_kind, body_values}
use Rattle.warning.specs.declared.bodies.Body.{Body}
use Rattle.warning.specs.declared.bodies.Body.TheVariants.{Cyclone, Gale, Waves, Fog, Surge}
use Rattle.format.specs.Correcting.{entry_of}
use Rattle.format.specs.Fmt.{Spot, none, found, spot}
use Rattle.format.specs.Words.{wide}
use Rattle.format.specs.Laws.Spots.{spots_along, spot_along, each_at, set_each, kept_entry, spelled_entry, Unnamed, picks, common_at, not_common, not_own}
use Rattle.ais_common.specs.Time.{spell_time, time_of}
use Rattle.ais_common.specs.Laws.Spelling.{spell_time_lem}
use Rattle.warning.specs.Changed.{spots, spot_of, common, own, first, own_spot, changed_body, changed}
use Rattle.warning.specs.Warning.{time_at, hours_at, warning, warnings, values_as, values_of}
use Rattle.warning.specs.declared.reading.Warning.{Warning}

-- where each field stands hangs on the kind of body alone
along : (r : Warning) → spots_along warnings.fmt [] (values_of r) 0 ≡ spots (body_kind r.body)
unfolding warnings warning values_as spots_along wide
along r = go r.body
  where
    go : (b : Body) → spots_along warning [] (8 ∷ r.repeat ∷ r.source ∷ 0 ∷ 412 ∷ 3 ∷ type_of (body_kind b) ∷ r.longitude ∷ r.latitude ∷ body_values b (spell_time r.time ∷ r.hours ∷ 0 ∷ [])) 0 ≡ spots (body_kind b)
    go (Cyclone b) = refl
    go (Gale b) = refl
    go (Waves b) = refl
    go (Fog b) = refl
    go (Surge b) = refl

pub spotted : (r : Warning) (i : ℕ) → spot warnings.fmt [] (values_of r) i ≡ spot_of (body_kind r.body) i
spotted r i = spot_along warnings.fmt (values_of r) i ∙ ap (λ t. get_or t i none) (along r)

-- ---- by number

-- the fields that every warning has
abbrev pub named : List Spot
named = none ∷ found 6 2 ∷ found 8 30 ∷ found 60 23 ∷ found 83 23 ∷ found 156 20 ∷ found 176 6 ∷ []

every : (t : Kind) → (picks (spots t) (common t) ≡ named) × (7 ≤ first t)
unfolding picks
every cyclone = (refl, lit≤ tt)
every gale = (refl, lit≤ tt)
every waves = (refl, lit≤ tt)
every fog = (refl, lit≤ tt)
every surge = (refl, lit≤ tt)

module _ (t : Kind) (n : ℕ) where
  pub common_found : (m : ℕ) → n ≡ m → ltb m 7 ≡ true → spot_of t (entry_of 7 (common t) (first t) (own t) n) ≡ get_or named m none
  common_found m e below = common_at (spots t) 7 (first t) (common t) (own t) refl n m e below ∙ ap (λ l. get_or l m none) (every t).0

  pub not_every : Unnamed Unit named 0 n → spot_of t (entry_of 7 (common t) (first t) (own t) n) ≡ own_spot t n
  not_every x = not_common (spots t) 7 (first t) (common t) (own t) refl n (every t).1 (subst⁻¹ (λ l. Unnamed Unit l 0 n) (every t).0 x)

  pub not_named : Unnamed Unit (picks (spots t) (own t)) (first t) n → own_spot t n ≡ none
  not_named x = not_own (spots t) 7 (first t) (common t) (own t) refl n x

-- ---- the changed record

-- The changed record has the changed list of values.
pub changed_values : (r : Warning) (i v p w : ℕ) → spot_of (body_kind r.body) i ≡ found p w → v < 2 ^ w → values_of (changed i v r) ≡ set (values_of r) i v
unfolding values_as changed each_at
changed_values r i v p w e l = go r.body e ∙ sym (set_each i v (values_of r))
  where
    f : ℕ → ℕ → ℕ
    f k x = cond (eqb i k) v x

    -- the values in front of a body
    head : ℕ → List ℕ → List ℕ
    head t us = f 0 8 ∷ f 1 r.repeat ∷ f 2 r.source ∷ f 3 0 ∷ f 4 412 ∷ f 5 3 ∷ f 6 t ∷ f 7 r.longitude ∷ f 8 r.latitude ∷ us

    before : (t : Kind) → spot_of t i ≡ found p w → (us : List ℕ)
        → 8 ∷ f 1 r.repeat ∷ f 2 r.source ∷ 0 ∷ 412 ∷ 3 ∷ type_of t ∷ f 7 r.longitude ∷ f 8 r.latitude ∷ us ≡ head (type_of t) us
    before t e us =
        let kept = kept_entry (spot_of t) i v e in
        λ y. kept 0 8 refl y ∷ f 1 r.repeat ∷ f 2 r.source ∷ kept 3 0 refl y ∷ kept 4 412 refl y ∷ kept 5 3 refl y ∷ kept 6 (type_of t) refl y ∷ f 7 r.longitude ∷ f 8 r.latitude ∷ us

    -- and behind it: time, hours and fill, from number k on
    tailed : (t : Kind) (k : ℕ) → spot_of t i ≡ found p w → spot_of t k ≡ found 156 20 → spot_of t (suc (suc k)) ≡ none
        → spell_time (cond (eqb i k) (time_of v) r.time) ∷ f (suc k) r.hours ∷ 0 ∷ [] ≡ f k (spell_time r.time) ∷ f (suc k) r.hours ∷ f (suc (suc k)) 0 ∷ []
    tailed t k e s z = let time = spelled_entry spell_time time_of (spot_of t) i v e l k 156 20 s (spell_time_lem v) r.time in λ y. time y ∷ f (suc k) r.hours ∷ kept_entry (spot_of t) i v e (suc (suc k)) 0 z y ∷ []

    go : (b : Body) → spot_of (body_kind b) i ≡ found p w
        → 8 ∷ f 1 r.repeat ∷ f 2 r.source ∷ 0 ∷ 412 ∷ 3 ∷ type_of (body_kind (changed_body i v b)) ∷ f 7 r.longitude ∷ f 8 r.latitude
        ∷ body_values (changed_body i v b) (spell_time (cond (eqb i (time_at (body_kind b))) (time_of v) r.time) ∷ f (hours_at (body_kind b)) r.hours ∷ 0 ∷ [])
        ≡ each_at i v 0 (8 ∷ r.repeat ∷ r.source ∷ 0 ∷ 412 ∷ 3 ∷ type_of (body_kind b) ∷ r.longitude ∷ r.latitude ∷ body_values b (spell_time r.time ∷ r.hours ∷ 0 ∷ []))
    go (Cyclone b) e =
        let last = tailed cyclone 16 e refl refl in
        before cyclone e _ ∙ (λ y. head 1 (body_values (changed_body i v (Cyclone b)) (last y)))
    go (Gale b) e =
        let last = tailed gale 14 e refl refl in
        let fill = kept_entry (spot_of gale) i v e 13 0 refl in
        before gale e _ ∙ (λ y. head 2 (f 9 b.radius ∷ f 10 b.least ∷ f 11 b.greatest ∷ f 12 b.direction ∷ fill y ∷ last y))
    go (Waves b) e =
        let last = tailed waves 13 e refl refl in
        let fill = kept_entry (spot_of waves) i v e 12 0 refl in
        before waves e _ ∙ (λ y. head 3 (f 9 b.radius ∷ f 10 b.height ∷ f 11 b.period ∷ fill y ∷ last y))
    go (Fog b) e =
        let last = tailed fog 12 e refl refl in
        let fill = kept_entry (spot_of fog) i v e 11 0 refl in
        before fog e _ ∙ (λ y. head 4 (f 9 b.radius ∷ f 10 b.visibility ∷ fill y ∷ last y))
    go (Surge b) e =
        let last = tailed surge 14 e refl refl in
        let fill = kept_entry (spot_of surge) i v e 13 0 refl in
        before surge e _ ∙ (λ y. head 5 (f 9 b.radius ∷ f 10 b.rise ∷ f 11 b.tide ∷ f 12 b.period ∷ fill y ∷ last y))
