-- The desk against the packets that have come of each notice: what holds between them, kept where a place is filled or freed; the desk's tests pass it. Assumes nothing.
use Rattle.std.specs.Prelude.{◌≡◌, Bool, true, false, ◌&&◌, ◌||◌, List, [], ◌∷◌, ◌⊎◌, ℕ, suc, ◌≤◌, ◌<◌, ltb, eqb, length, set, take, drop}
use Rattle.std.proofs.Math.Path.{refl}
use Rattle.std.proofs.Common.{sym, ap, ◌∙◌, subst, inl, inr, arith, length-set, get_or-set_same, get_or-set_other, ltb-true, ltb-false, eqb-true}
use Rattle.std.proofs.Math.Bool.{not}
use Rattle.std.proofs.lemmas.Bool.{false≢true, eqb-false}
use Rattle.packet.specs.Packet.{most_packets, part_bytes_of}
use Rattle.places.specs.Places.{every_below, blank, good_place, passes, clash, four_places, place_at, all_apart, good_places, open_at}
use Rattle.places.specs.Desk.{store_bytes, cell, first_tests}
use Rattle.places.specs.declared.Place.{Place}
use Rattle.places.specs.Laws.Below.{each_every}
use Rattle.places.specs.Laws.Front.{Unopened, open_found, open_none}
use Rattle.places.specs.Laws.Good.{pass_tests}
use Rattle.desk_runs.specs.Runs.{Part}
use Rattle.desk_runs.specs.Laws.Stands.{Stands, good_place_lem, moved}

-- the packets f n of each message number n have come
pub record Told (ps : List Place) (s : List ℕ) (f : ℕ → List Part) : Type 0 where
  pub wide : four_places ≤ length ps
  pub deep : store_bytes ≤ length s
  -- no two open places have one number
  pub alone : (i j : ℕ) → i < four_places → j < four_places → (place_at ps i).«open» ≡ true → (place_at ps j).«open» ≡ true → (place_at ps i).number ≡ (place_at ps j).number → i ≡ j
  pub stands : (i : ℕ) → i < four_places → (place_at ps i).«open» ≡ true → Stands s i (place_at ps i) (f (place_at ps i).number)
  -- of a number that no open place has, none has come
  pub away : (n : ℕ) → Unopened ps n → f n ≡ []

-- ---- the desk's tests

module _ {ps : List Place} {s : List ℕ} {f : ℕ → List Part} (x : Told ps s f) where
  no_clash : (i j : ℕ) → i < four_places → j < i → not (clash (place_at ps j) (place_at ps i)) ≡ true
  no_clash i j a b = go (place_at ps i).«open» (place_at ps j).«open» (eqb (place_at ps j).number (place_at ps i).number) refl refl refl
    where
      go : (u v w : Bool) → (place_at ps i).«open» ≡ u → (place_at ps j).«open» ≡ v → eqb (place_at ps j).number (place_at ps i).number ≡ w → not (u && (v && w)) ≡ true
      go true true true eu ev ew = let q = x.alone j i (omega arith) a ev eu (eqb-true (place_at ps j).number (place_at ps i).number ew) in absurd (omega arith)
      go true true false eu ev ew = refl
      go true false w eu ev ew = refl
      go false v w eu ev ew = refl

  each_good : (i : ℕ) → i < four_places → passes (place_at ps i) ≡ true
  each_good i a = go (place_at ps i).«open» refl
    where
      go : (u : Bool) → (place_at ps i).«open» ≡ u → (not u || good_place (place_at ps i)) ≡ true
      go true e = good_place_lem (x.stands i a e)
      go false e = refl

  pub good_places_lem : good_places ps ≡ true
  unfolding good_places all_apart
  good_places_lem =
      rw (
        each_every four_places (λ i. every_below i (λ j. not (clash (place_at ps j) (place_at ps i)))) (λ i a. each_every i (λ j. not (clash (place_at ps j) (place_at ps i))) (λ j b. no_clash i j a b)),
        each_every four_places (λ i. passes (place_at ps i)) each_good,
      ) refl

  pub tests_pass : first_tests ps s ≡ 0
  tests_pass = pass_tests ps s x.wide x.deep good_places_lem

  -- the place of a notice of which a packet has come
  pub its_place : (n : ℕ) (y : Part) (ys : List Part) → f n ≡ y ∷ ys → (i : ℕ) × Stands s i (place_at ps i) (y ∷ ys)
  its_place n y ys e = go (ltb (open_at ps n) four_places) refl
    where
      go : (u : Bool) → ltb (open_at ps n) four_places ≡ u → (i : ℕ) × Stands s i (place_at ps i) (y ∷ ys)
      go true l =
          let a = ltb-true (open_at ps n) four_places l in
          let (o, q) = open_found ps n a in
          (open_at ps n, subst (Stands s (open_at ps n) (place_at ps (open_at ps n))) (ap f q ∙ e) (x.stands (open_at ps n) a o))
      go false l = let z : ◌≡◌ {A = ℕ} 0 (suc (length ys)) = ap length (sym (x.away n (open_none ps n (ltb-false (open_at ps n) four_places l))) ∙ e) in absurd (omega arith)

  -- the same packets, said otherwise
  pub retold : (f' : ℕ → List Part) → ((n : ℕ) → f' n ≡ f n) → Told ps s f'
  retold f' e = record {
    wide = x.wide;
    deep = x.deep;
    alone = x.alone;
    stands = λ i a o. rw (e (place_at ps i).number) (x.stands i a o);
    away = λ n h. e n ∙ x.away n h;
  }

-- ---- place i becomes q

module _ {ps : List Place} {s : List ℕ} {f : ℕ → List Part} (x : Told ps s f) (i : ℕ) (low : i < four_places) (q : Place) where
  abbrev row : List Place
  row = set ps i q

  -- each place of the row is q or what it was
  abbrev Which : ℕ → Type 0
  Which j = ((j ≡ i) × (place_at row j ≡ q)) ⊎ ((j ≡ i → ⊥) × (place_at row j ≡ place_at ps j))

  which : (j : ℕ) → Which j
  which j = go (eqb j i) refl
    where
      go : (y : Bool) → eqb j i ≡ y → Which j
      go true e = let is = eqb-true j i e in inl (is, ap (place_at row) is ∙ get_or-set_same ps i q blank (omega (arith, low, x.wide)))
      go false e = let isnt = eqb-false j i e in inr (isnt, get_or-set_other ps i j q blank isnt)

  -- It is filled: no other place has its number, and if it was open it had that number.
  pub filled : (t : List ℕ) (f' : ℕ → List Part) → length t ≡ length s → q.«open» ≡ true
      → ((j : ℕ) → j < four_places → (j ≡ i → ⊥) → (place_at ps j).«open» ≡ true → (place_at ps j).number ≡ q.number → ⊥)
      → ((place_at ps i).«open» ≡ true → (place_at ps i).number ≡ q.number)
      → ((j k n : ℕ) → (j ≡ i → ⊥) → k < most_packets → n ≤ part_bytes_of → take n (drop (cell j k) t) ≡ take n (drop (cell j k) s))
      → Stands t i q (f' q.number) → ((n : ℕ) → (n ≡ q.number → ⊥) → f' n ≡ f n) → Told row t f'
  filled t f' long opens only was others here there = record {
    wide = omega (arith, x.wide, length-set ps i q);
    deep = omega (arith, x.deep, long);
    alone = λ j k a b oj ok e. one j k a b oj ok e (which j) (which k);
    stands = λ j a o. stand j a o (which j);
    away = λ n h. there n (λ e. h i low (ap (λ p. p.«open») self ∙ opens) (ap (λ p. p.number) self ∙ sym e)) ∙ x.away n (λ j a o e. gone n h j a o e (which j));
  }
    where
      self : place_at row i ≡ q
      self = get_or-set_same ps i q blank (omega (arith, low, x.wide))

      one : (j k : ℕ) → j < four_places → k < four_places → (place_at row j).«open» ≡ true → (place_at row k).«open» ≡ true → (place_at row j).number ≡ (place_at row k).number
          → Which j → Which k → j ≡ k
      one j k a b oj ok e (inl (jj, pj)) (inl (kk, pk)) = jj ∙ sym kk
      one j k a b oj ok e (inl (jj, pj)) (inr (kk, pk)) = absurd (only k b kk (ap (λ p. p.«open») (sym pk) ∙ ok) (ap (λ p. p.number) (sym pk) ∙ sym e ∙ ap (λ p. p.number) pj))
      one j k a b oj ok e (inr (jj, pj)) (inl (kk, pk)) = absurd (only j a jj (ap (λ p. p.«open») (sym pj) ∙ oj) (ap (λ p. p.number) (sym pj) ∙ e ∙ ap (λ p. p.number) pk))
      one j k a b oj ok e (inr (jj, pj)) (inr (kk, pk)) = x.alone j k a b (ap (λ p. p.«open») (sym pj) ∙ oj) (ap (λ p. p.«open») (sym pk) ∙ ok) (ap (λ p. p.number) (sym pj) ∙ e ∙ ap (λ p. p.number) pk)

      stand : (j : ℕ) → j < four_places → (place_at row j).«open» ≡ true → Which j → Stands t j (place_at row j) (f' (place_at row j).number)
      stand j a o (inl (jj, pj)) = rw (pj, jj) here
      stand j a o (inr (jj, pj)) =
          let was_open : (place_at ps j).«open» ≡ true = ap (λ p. p.«open») (sym pj) ∙ o in
          rw (pj, there (place_at ps j).number (only j a jj was_open)) (moved t (x.stands j a was_open) (λ k n. others j k n jj))

      gone : (n : ℕ) → Unopened row n → (j : ℕ) → j < four_places → (place_at ps j).«open» ≡ true → (place_at ps j).number ≡ n → Which j → ⊥
      gone n h j a o e (inl (jj, pj)) =
          h j a (ap (λ p. p.«open») pj ∙ opens) (ap (λ p. p.number) pj ∙ sym (was (ap (λ k. (place_at ps k).«open») (sym jj) ∙ o)) ∙ ap (λ k. (place_at ps k).number) (sym jj) ∙ e)
      gone n h j a o e (inr (jj, pj)) = h j a (ap (λ p. p.«open») pj ∙ o) (ap (λ p. p.number) pj ∙ e)

  -- It is freed: of its notice none has come.
  pub emptied : (f' : ℕ → List Part) → q.«open» ≡ false → (place_at ps i).«open» ≡ true → f' (place_at ps i).number ≡ [] → ((n : ℕ) → (n ≡ (place_at ps i).number → ⊥) → f' n ≡ f n) → Told row s f'
  emptied f' shut was here there = record {
    wide = omega (arith, x.wide, length-set ps i q);
    deep = x.deep;
    alone = λ j k a b oj ok e. let (jj, pj) = still j oj (which j) in let (kk, pk) = still k ok (which k) in x.alone j k a b (ap (λ p. p.«open») (sym pj) ∙ oj) (ap (λ p. p.«open») (sym pk) ∙ ok) (ap (λ p. p.number) (sym pj) ∙ e ∙ ap (λ p. p.number) pk);
    stands = λ j a o. stand j a o (still j o (which j));
    away = λ n h. none n h (eqb n (place_at ps i).number) refl;
  }
    where
      -- an open place is what it was
      still : (j : ℕ) → (place_at row j).«open» ≡ true → Which j → (j ≡ i → ⊥) × (place_at row j ≡ place_at ps j)
      still j o (inl (jj, pj)) = absurd (false≢true (sym shut ∙ ap (λ p. p.«open») (sym pj) ∙ o))
      still j o (inr k) = k

      stand : (j : ℕ) → j < four_places → (place_at row j).«open» ≡ true → (j ≡ i → ⊥) × (place_at row j ≡ place_at ps j) → Stands s j (place_at row j) (f' (place_at row j).number)
      stand j a o (jj, pj) =
          let was_open : (place_at ps j).«open» ≡ true = ap (λ p. p.«open») (sym pj) ∙ o in
          rw (pj, there (place_at ps j).number (λ e. jj (x.alone j i a low was_open was e))) (x.stands j a was_open)

      gone : (n : ℕ) → Unopened row n → (n ≡ (place_at ps i).number → ⊥) → (j : ℕ) → j < four_places → (place_at ps j).«open» ≡ true → (place_at ps j).number ≡ n → Which j → ⊥
      gone n h d j a o e (inl (jj, pj)) = d (sym e ∙ ap (λ k. (place_at ps k).number) jj)
      gone n h d j a o e (inr (jj, pj)) = h j a (ap (λ p. p.«open») pj ∙ o) (ap (λ p. p.number) pj ∙ e)

      none : (n : ℕ) → Unopened row n → (y : Bool) → eqb n (place_at ps i).number ≡ y → f' n ≡ []
      none n h true e = ap f' (eqb-true n (place_at ps i).number e) ∙ here
      none n h false e = let d = eqb-false n (place_at ps i).number e in there n d ∙ x.away n (λ j a o q. gone n h d j a o q (which j))
