-- The first four places: what is found among them, and that a longer row's are its first four. Assumes nothing.
use Rattle.std.specs.Prelude.{◌≡◌, refl, true, false, not, List, ℕ, zero, suc, ◌≤◌, ◌<◌, eqb}
use Rattle.std.proofs.Common.{sym, ◌∙◌, arith, eqb-true, eq-eqb}
use Rattle.std.proofs.lemmas.Bool.{false≢true, not-true}
use Rattle.std.proofs.Math.Bool.{and-eq-true_iff}
use Rattle.places.specs.Places.{first_from, serves, four_places, place_at, front, open_at, free_at}
use Rattle.places.specs.declared.Place.{Place}
use Rattle.places.specs.Laws.Below.{first_holds, first_least}
use Rattle.places.specs.Laws.Good.{open_serves}

pub front_open : (ps : List Place) (n : ℕ) → open_at (front ps) n ≡ open_at ps n
unfolding open_at first_from
front_open ps n = refl

pub front_free : (ps : List Place) → free_at (front ps) ≡ free_at ps
unfolding free_at first_from
front_free ps = refl

pub front_at : (ps : List Place) (i : ℕ) → i < four_places → place_at (front ps) i ≡ place_at ps i
front_at ps zero l = refl
front_at ps (suc zero) l = refl
front_at ps (suc (suc zero)) l = refl
front_at ps (suc (suc (suc zero))) l = refl
front_at ps (suc (suc (suc (suc i)))) l = absurd (omega arith)

-- the open place of message number n, where there is one,
pub open_found : (ps : List Place) (n : ℕ) → open_at ps n < four_places → let p = place_at ps (open_at ps n) in (p.«open» ≡ true) × (p.number ≡ n)
open_found ps n l =
    let p = place_at ps (open_at ps n) in
    let (a, b) = (and-eq-true_iff p.«open» (eqb p.number n)).0 (open_serves ps n l) in
    (a, eqb-true p.number n b)

-- no open place has message number n
abbrev pub Unopened : List Place → ℕ → Type 0
Unopened ps n = (i : ℕ) → i < four_places → (place_at ps i).«open» ≡ true → (place_at ps i).number ≡ n → ⊥

-- and none where it is not found
pub open_none : (ps : List Place) (n : ℕ) → four_places ≤ open_at ps n → Unopened ps n
unfolding open_at
open_none ps n l i m e q =
    let is : serves (place_at ps i) n ≡ true = rw (e, eq-eqb (place_at ps i).number n q) refl in
    let isnt = first_least 0 four_places (λ i. serves (place_at ps i) n) i (omega arith) (omega arith) in
    false≢true (sym isnt ∙ is)

-- a place that is found free is not open
pub free_found : (ps : List Place) → free_at ps < four_places → (place_at ps (free_at ps)).«open» ≡ false
unfolding free_at
free_found ps l = not-true (place_at ps (free_at ps)).«open» (first_holds 0 four_places (λ i. not (place_at ps i).«open») l)
