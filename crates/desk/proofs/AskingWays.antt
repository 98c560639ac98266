-- The ways through `ask` and `drop`: what is found among the four places, and what each test makes of the answer.
use Prim.Native.Nat.{ℕ, ◌≤◌, ◌<◌}
use mathlib.Core.Bool.{cond}
use mathlib.Core.List.{List}
use mathlib.Core.Path.{◌≡◌, sym, ap, ap₂, subst, ◌∙◌}
use native.Mathlib.Omega.{arith}
use lib.Dec.{ltb}
use lib.ListN.{length}
use Rattle.std.specs.Prelude.{Some, None}
use Rattle.places.specs.Desk.{store_bytes, first_tests, turn_of, Asking, answers, asking, Dropping, dropping, turns}
use Rattle.places.specs.Places.{freed, four_places, place_at, front, open_at, one_of_four}
use Rattle.places.specs.Promises.{Hands, AskTurn, DropTurn}
use Rattle.places.specs.declared.Place.{Place}
use Rattle.places.specs.Replies.{Done}
use Rattle.places.specs.Replies.{Turn}
use Rattle.places.specs.Laws.Four.{front_is, turn_first, one_some, one_none, last_of_four}
use Rattle.places.specs.Laws.Good.{Sized, open_sized, tests_passed}
use Rattle.places.specs.Laws.Outcomes.{asking_found, dropping_found}

pub dropped : (ps : List Place) (s : List ℕ) (n : ℕ) (r : Turn) (o : Dropping) → dropping ps s n ≡ o → r ≡ turn_of ps o.reply o.change → r.at < four_places → DropTurn ps s n r
dropped ps s n r o e t l = rw e (t, l)

abbrev gone : ℕ → Place → Dropping
gone i p = record { reply = Done; change = turns i (freed p) }

-- ---- among the four places

module _ (ps : List Place) (s : List ℕ) (n : ℕ) where
  pub asked : (b w c v : List ℕ) (o : Asking) (r : Turn) → asking ps s n b w ≡ o → Hands (place_at ps 0) o r c v → AskTurn ps s n b w r c v
  asked b w c v o r e (t, l, x, y) = rw e (t ∙ turn_first ps o.reply o.change, l, x, y)

  -- the first tests passed, and place i, which is p, is open with number n
  pub record Found (i : ℕ) (p : Place) : Type 0 where
    pub passed : first_tests ps s ≡ 0
    pub deep : store_bytes ≤ length s
    pub there : open_at (front ps) n ≡ i
    pub within : i < four_places
    pub is : place_at (front ps) (open_at (front ps) n) ≡ p
    pub sized : Sized p

  module _ (four : length ps ≡ four_places) where
    pub nowhere : None ≡ one_of_four (open_at ps n) → four_places ≤ open_at (front ps) n
    nowhere e = subst (λ qs. four_places ≤ open_at qs n) (sym (front_is ps four)) (one_none (open_at ps n) e)

    pub found : (i : ℕ) (p : Place) → first_tests ps s ≡ 0 → Some i ≡ one_of_four (open_at ps n) → p ≡ place_at ps (cond (ltb i 3) i 3) → Found i p
    found i p z e q =
        let (deep, good) = tests_passed ps s z in
        let (there, low) = one_some i (open_at ps n) e in
        let within : i < four_places = omega (arith, there, low) in
        let is : place_at ps (open_at ps n) ≡ p = sym (q ∙ ap (place_at ps) (last_of_four i within ∙ there)) in
        record {
          passed = z;
          deep = deep;
          there = ap (λ qs. open_at qs n) (front_is ps four) ∙ sym there;
          within = within;
          is = ap (λ qs. place_at qs (open_at qs n)) (front_is ps four) ∙ is;
          sized = subst Sized is (open_sized ps n good low);
        }

  module _ {i : ℕ} {p : Place} (f : Found i p) where
    pub drops : dropping ps s n ≡ gone i p
    drops = dropping_found ps s n f.passed (omega (arith, f.there, f.within)) ∙ ap₂ gone f.there f.is

    pub asks : (b w : List ℕ) → asking ps s n b w ≡ answers s i p b w
    asks b w = asking_found ps s n b w f.passed (omega (arith, f.there, f.within)) ∙ ap₂ (λ i p. answers s i p b w) f.there f.is
