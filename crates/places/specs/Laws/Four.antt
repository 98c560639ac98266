-- The four places, one by one: what is asked of all of them is asked of each in turn, lowest first. Assumes nothing.
use Rattle.std.specs.Prelude.{◌≡◌, Bool, true, false, not, cond, ◌&&◌, List, [], ◌∷◌, ℕ, ◌≤◌, ◌<◌, ltb, length, Some, None}
use Rattle.std.proofs.Math.Path.{refl}
use Rattle.std.proofs.Common.{sym, ap, ◌∙◌, subst, arith, ltb-true, ltb-false}
use Rattle.places.specs.Desk.{Accepting, Change, stays, turns, turn_of}
use Rattle.places.specs.Places.{every_below, first_from, passes, serves, clash, four_places, place_at, front, one_of_four, all_apart, good_places, open_at, free_at}
use Rattle.places.specs.Promises.{Gives}
use Rattle.places.specs.declared.Place.{Place}
use Rattle.places.specs.Replies.{Reply}
use Rattle.places.specs.Replies.{Turn}

module _ (a b c d : Place) where
  abbrev four : List Place
  four = a ∷ b ∷ c ∷ d ∷ []

  pub good_four : good_places four ≡ (all_apart four && (((passes a && passes b) && passes c) && passes d))
  unfolding good_places every_below
  good_four = refl

  pub apart_four : all_apart four ≡ ((not (clash a b) && (not (clash a c) && not (clash b c))) && ((not (clash a d) && not (clash b d)) && not (clash c d)))
  unfolding all_apart every_below
  apart_four = refl

  pub open_four : (n : ℕ) → open_at four n ≡ cond (serves a n) 0 (cond (serves b n) 1 (cond (serves c n) 2 (cond (serves d n) 3 4)))
  unfolding open_at first_from
  open_four n = refl

  pub free_four : free_at four ≡ cond (not a.«open») 0 (cond (not b.«open») 1 (cond (not c.«open») 2 (cond (not d.«open») 3 4)))
  unfolding free_at first_from
  free_four = refl

-- four places are their own front
pub front_is : (ps : List Place) → length ps ≡ four_places → front ps ≡ ps
front_is [] e = absurd (omega (arith, e))
front_is (a ∷ []) e = absurd (omega (arith, e))
front_is (a ∷ b ∷ []) e = absurd (omega (arith, e))
front_is (a ∷ b ∷ c ∷ []) e = absurd (omega (arith, e))
front_is (a ∷ b ∷ c ∷ d ∷ []) e = refl
front_is (a ∷ b ∷ c ∷ d ∷ x ∷ ps) e = absurd (omega (arith, e))

-- of a row that stays the turn has the first place, whatever follows
pub turn_first : (ps : List Place) (x : Reply) (y : Change) → turn_of (place_at ps 0 ∷ []) x y ≡ turn_of ps x y
turn_first ps x stays = refl
turn_first ps x (turns i p) = refl

-- a number that is one of the four, and one that is none
pub one_some : (i j : ℕ) → Some i ≡ one_of_four j → (i ≡ j) × (j < four_places)
one_some i j e = go (ltb j four_places) refl e
  where
    go : (b : Bool) → ltb j four_places ≡ b → Some i ≡ cond b (Some j) None → (i ≡ j) × (j < four_places)
    go true l q = (cc, ltb-true j four_places l)
    go false l q = let z : ◌≡◌ {A = ℕ} 0 1 = cc in absurd (omega (arith, z))

pub one_none : (j : ℕ) → None ≡ one_of_four j → four_places ≤ j
one_none j e = go (ltb j four_places) refl e
  where
    go : (b : Bool) → ltb j four_places ≡ b → None ≡ cond b (Some j) None → four_places ≤ j
    go true l q = let z : ◌≡◌ {A = ℕ} 0 1 = cc in absurd (omega (arith, z))
    go false l q = ltb-false j four_places l

-- where no place changes, the turn has the first one
pub first_again : (r : Turn) (p : Place) (x : Reply) → r ≡ turn_of (p ∷ []) x stays → r.at < four_places
first_again r p x e = omega (arith, ap (λ (r : Turn). r.at) e)

-- a turn that gives what o₀ is, where o is o₀
pub settled : (p : Place) (o o₀ : Accepting) (r : Turn) (t : List ℕ) → o ≡ o₀ → r ≡ turn_of (p ∷ []) o₀.reply o₀.change → (turn_of (p ∷ []) o₀.reply o₀.change).at < four_places → t ≡ o₀.store → Gives p o r t
settled p o o₀ r t e is low same = (
  is ∙ ap (λ (x : Accepting). turn_of (p ∷ []) x.reply x.change) (sym e),
  subst (λ (x : Turn). x.at < four_places) (sym is) low,
  same ∙ ap (λ (x : Accepting). x.store) (sym e),
)

-- the last one stands for every greater number
pub last_of_four : (i : ℕ) → i < four_places → cond (ltb i 3) i 3 ≡ i
last_of_four i h = go (ltb i 3) refl
  where
    go : (b : Bool) → ltb i 3 ≡ b → cond b i 3 ≡ i
    go true _ = refl
    go false e = let l = ltb-false i 3 e in omega (arith, l)
