-- What asking and dropping come to, by their tests in order. Assumes nothing.
use Rattle.std.specs.Prelude.{ℕ, ◌≤◌, ◌<◌, List, ◌≡◌, length}
use Rattle.std.proofs.Math.Path.{refl}
use borrow.Author.Tests.{eq-eqb, ne_eqb, lt-ltb, le-ltb}
use Rattle.format.specs.Refusals.{bare}
use Rattle.places.specs.Desk.{first_tests, stays, turns, not_answered, lists, hands_out, missing_below, joined_below, answers, asking, dropping}
use Rattle.places.specs.Places.{freed, four_places, place_at, front, open_at}
use Rattle.places.specs.declared.Place.{Place}
use Rattle.places.specs.Replies.{Done, Refused}

-- the first tests refuse, no place has that number, or one has
module _ (ps : List Place) (s : List ℕ) (n : ℕ) where
  module _ (b w : List ℕ) where
    pub asking_refused : (first_tests ps s ≡ 0 → ⊥) → asking ps s n b w ≡ not_answered b w (bare (first_tests ps s))
    unfolding asking
    asking_refused d = rw (ne_eqb (first_tests ps s) 0 d) refl

    pub asking_unknown : first_tests ps s ≡ 0 → four_places ≤ open_at (front ps) n → asking ps s n b w ≡ not_answered b w (bare 11)
    unfolding asking
    asking_unknown z l = rw (eq-eqb (first_tests ps s) 0 z, le-ltb (open_at (front ps) n) four_places l) refl

    pub asking_found : first_tests ps s ≡ 0 → open_at (front ps) n < four_places → asking ps s n b w ≡ answers s (open_at (front ps) n) (place_at (front ps) (open_at (front ps) n)) b w
    unfolding asking
    asking_found z l = rw (eq-eqb (first_tests ps s) 0 z, lt-ltb (open_at (front ps) n) four_places l) refl

  pub dropping_refused : (first_tests ps s ≡ 0 → ⊥) → dropping ps s n ≡ record { reply = Refused (bare (first_tests ps s)); change = stays }
  unfolding dropping
  dropping_refused d = rw (ne_eqb (first_tests ps s) 0 d) refl

  pub dropping_unknown : first_tests ps s ≡ 0 → four_places ≤ open_at (front ps) n → dropping ps s n ≡ record { reply = Refused (bare 11); change = stays }
  unfolding dropping
  dropping_unknown z l = rw (eq-eqb (first_tests ps s) 0 z, le-ltb (open_at (front ps) n) four_places l) refl

  pub dropping_found : first_tests ps s ≡ 0 → open_at (front ps) n < four_places → dropping ps s n ≡ record { reply = Done; change = turns (open_at (front ps) n) (freed (place_at (front ps) (open_at (front ps) n))) }
  unfolding dropping
  dropping_found z l = rw (eq-eqb (first_tests ps s) 0 z, lt-ltb (open_at (front ps) n) four_places l) refl

-- numbers are missing, or none
module _ (s : List ℕ) (i : ℕ) (p : Place) (b w : List ℕ) where
  pub answers_missing : (length (missing_below p.total p) ≡ 0 → ⊥) → answers s i p b w ≡ lists (missing_below p.total p) b w
  unfolding answers
  answers_missing d = rw (ne_eqb (length (missing_below p.total p)) 0 d) refl

  pub answers_whole : length (missing_below p.total p) ≡ 0 → answers s i p b w ≡ hands_out (joined_below p.total s i p) i p b w
  unfolding answers
  answers_whole z = rw (eq-eqb (length (missing_below p.total p)) 0 z) refl
