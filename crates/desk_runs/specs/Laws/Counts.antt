-- Counting numbers below a number: when the count is full, none or one, and when two counts add up. With it, as many notices are open as there are open places. Assumes nothing.
use Rattle.std.specs.Prelude.{◌≡◌, Bool, not, ◌&&◌, List, [], ◌∷◌, length}
use Rattle.std.proofs.Math.Path.{refl, sym, ap₂}
use Rattle.std.proofs.Common.{ap, ◌∙◌, subst, arith}
use Rattle.std.proofs.Math.Bool.{true, false, cond}
use Rattle.std.proofs.lemmas.Bool.{false≢true}
use Prim.Native.Nat.{ℕ, zero, suc, ◌+◌, ◌≤◌, ◌<◌}
use Rattle.std.proofs.Math.Dec.{ltb, eqb}
use borrow.Author.Tests.{ltb-true, ltb-false, lt-ltb, le-ltb, eqb-true, eqb-false, eq-eqb}
use Rattle.places.specs.Places.{serves, four_places, place_at, open_at, free_at}
use Rattle.places.specs.declared.Place.{Place}
use Rattle.places.specs.Laws.Below.{first_least}
use Rattle.places.specs.Laws.Front.{open_found, open_none, free_found}
use Rattle.desk_runs.specs.Runs.{Part}
use Rattle.desk_runs.specs.Taking.{count_below, some, most_numbers}
use Rattle.desk_runs.specs.Laws.Told.{Told}

-- ---- counts

bit : (b : Bool) → cond b 1 0 ≤ 1
bit true = omega arith
bit false = omega arith

count_most : (n : ℕ) (f : ℕ → Bool) → count_below n f ≤ n
unfolding count_below
count_most zero f = omega arith
count_most (suc n) f = omega (arith, count_most n f, bit (f n))

-- it holds of every number below n
count_all : (n : ℕ) (f : ℕ → Bool) → ((i : ℕ) → i < n → f i ≡ true) → count_below n f ≡ n
unfolding count_below
count_all zero f h = refl
count_all (suc n) f h = rw (h n (omega arith)) (omega (arith, count_all n f (λ i l. h i (omega arith))))

-- of one it does not
count_less : (n : ℕ) (f : ℕ → Bool) (i : ℕ) → i < n → f i ≡ false → count_below n f < n
unfolding count_below
count_less zero f i l e = absurd (omega arith)
count_less (suc n) f i l e = go (eqb i n) refl (count_less n f i)
  where
    go : (u : Bool) → eqb i n ≡ u → (i < n → f i ≡ false → count_below n f < n) → count_below n f + cond (f n) 1 0 < suc n
    go true q r = let last : f n ≡ false = ap f (sym (eqb-true i n q)) ∙ e in rw last (omega (arith, count_most n f))
    go false q r = let d = eqb-false i n q in omega (arith, r (omega arith) e, bit (f n))

-- of none
count_none : (n : ℕ) (f : ℕ → Bool) → ((i : ℕ) → i < n → f i ≡ false) → count_below n f ≡ 0
unfolding count_below
count_none zero f h = refl
count_none (suc n) f h = rw (h n (omega arith)) (omega (arith, count_none n f (λ i l. h i (omega arith))))

-- of i alone
count_one : (n : ℕ) (f : ℕ → Bool) (i : ℕ) → i < n → f i ≡ true → ((j : ℕ) → j < n → f j ≡ true → j ≡ i) → count_below n f ≡ 1
unfolding count_below
count_one zero f i l e h = absurd (omega arith)
count_one (suc n) f i l e h = go (eqb i n) refl (count_one n f i)
  where
    off : (j : ℕ) → j < suc n → (j ≡ i → ⊥) → f j ≡ false
    off j k d = shut (f j) refl
      where
        shut : (u : Bool) → f j ≡ u → u ≡ false
        shut true q = absurd (d (h j k q))
        shut false q = refl

    go : (u : Bool) → eqb i n ≡ u → (i < n → f i ≡ true → ((j : ℕ) → j < n → f j ≡ true → j ≡ i) → count_below n f ≡ 1) → count_below n f + cond (f n) 1 0 ≡ 1
    go true q r =
        let last : f n ≡ true = ap f (sym (eqb-true i n q)) ∙ e in
        let is = eqb-true i n q in
        rw last (omega (arith, count_none n f (λ j k. off j (omega arith) (λ z. omega (arith, k, z, is)))))
    go false q r =
        let d = eqb-false i n q in
        rw (off n (omega arith) (λ z. d (sym z))) (omega (arith, r (omega arith) e (λ j k. h j (omega arith))))

-- of f or of g, and never of both
count_sum : (n : ℕ) (h f g : ℕ → Bool) → ((i : ℕ) → cond (h i) 1 0 ≡ cond (f i) 1 0 + cond (g i) 1 0) → count_below n h ≡ count_below n f + count_below n g
unfolding count_below
count_sum zero h f g e = refl
count_sum (suc n) h f g e = omega (arith, count_sum n h f g e, e n)

count_same : (n : ℕ) (f g : ℕ → Bool) → ((i : ℕ) → i < n → f i ≡ g i) → count_below n f ≡ count_below n g
unfolding count_below
count_same zero f g e = refl
count_same (suc n) f g e = ap₂ ◌+◌ (count_same n f g (λ i l. e i (omega arith))) (ap (λ b. cond b 1 0) (e n (omega arith)))

-- ---- places

abbrev open_places : List Place → ℕ
open_places ps = count_below four_places (λ i. (place_at ps i).«open»)

-- a place is free exactly where fewer than four are open
room_open : (ps : List Place) → ltb (open_places ps) four_places ≡ ltb (free_at ps) four_places
unfolding free_at
room_open ps = go (ltb (free_at ps) four_places) refl
  where
    go : (u : Bool) → ltb (free_at ps) four_places ≡ u → ltb (open_places ps) four_places ≡ u
    go true e = let l = ltb-true (free_at ps) four_places e in lt-ltb (open_places ps) four_places (count_less four_places (λ i. (place_at ps i).«open») (free_at ps) l (free_found ps l))
    go false e =
        let l = ltb-false (free_at ps) four_places e in
        le-ltb (open_places ps) four_places (omega (arith, count_all four_places (λ i. (place_at ps i).«open») (λ i k. busy i (place_at ps i).«open» refl (first_least 0 four_places (λ i. not (place_at ps i).«open») i (omega arith) (omega (arith, k, l))))))
      where
        busy : (i : ℕ) (u : Bool) → (place_at ps i).«open» ≡ u → not u ≡ false → u ≡ true
        busy i true e n = refl
        busy i false e n = absurd (false≢true (sym n))

module _ {ps : List Place} {s : List ℕ} {f : ℕ → List Part} (x : Told ps s f) where
  -- a place is open with number n exactly where packets of n have come
  served : (n : ℕ) → count_below four_places (λ i. serves (place_at ps i) n) ≡ cond (some (f n)) 1 0
  served n = go (ltb (open_at ps n) four_places) refl
    where
      k : ℕ
      k = open_at ps n

      there : (xs : List Part) → 1 ≤ length xs → ◌≡◌ {A = ℕ} (cond (some xs) 1 0) 1
      there [] l = absurd (omega arith)
      there (y ∷ ys) l = refl

      is_at : (j : ℕ) → serves (place_at ps j) n ≡ true → ((place_at ps j).«open» ≡ true) × ((place_at ps j).number ≡ n)
      is_at j e = both (place_at ps j).«open» (eqb (place_at ps j).number n) refl refl e
        where
          both : (u v : Bool) → (place_at ps j).«open» ≡ u → eqb (place_at ps j).number n ≡ v → (u && v) ≡ true → (u ≡ true) × ((place_at ps j).number ≡ n)
          both true true eu ev q = (refl, eqb-true (place_at ps j).number n ev)
          both true false eu ev q = absurd (false≢true q)
          both false v eu ev q = absurd (false≢true q)

      go : (u : Bool) → ltb k four_places ≡ u → count_below four_places (λ i. serves (place_at ps i) n) ≡ cond (some (f n)) 1 0
      go true e =
          let l = ltb-true k four_places e in
          let (o, q) = open_found ps n l in
          let here : 1 ≤ length (f n) = subst (λ n. 1 ≤ length (f n)) q (x.stands k l o).some in
          count_one four_places (λ i. serves (place_at ps i) n) k l (rw (o, eq-eqb (place_at ps k).number n q) refl)
          (λ j m z. let (oj, qj) = is_at j z in x.alone j k m l oj o (qj ∙ sym q))
          ∙ sym (there (f n) here)
      go false e =
          let h = open_none ps n (ltb-false k four_places e) in
          count_none four_places (λ i. serves (place_at ps i) n) (λ i l. off i l (serves (place_at ps i) n) refl) ∙ ap (λ xs. cond (some xs) 1 0) (sym (x.away n h))
        where
          off : (i : ℕ) → i < four_places → (u : Bool) → serves (place_at ps i) n ≡ u → u ≡ false
          off i l true z = let (oi, qi) = is_at i z in absurd (open_none ps n (ltb-false k four_places e) i l oi qi)
          off i l false z = refl

  -- the open places whose number is below n are as many as the numbers below n of which packets have come
  numbered : (n : ℕ) → count_below n (λ k. some (f k)) ≡ count_below four_places (λ i. (place_at ps i).«open» && ltb (place_at ps i).number n)
  unfolding count_below
  numbered zero = sym (count_none four_places (λ i. (place_at ps i).«open» && ltb (place_at ps i).number 0) (λ i l. rw (le-ltb (place_at ps i).number 0 (omega arith)) (no (place_at ps i).«open»)))
    where
      no : (u : Bool) → (u && false) ≡ false
      no true = refl
      no false = refl
  numbered (suc n) =
      ap₂ ◌+◌ (numbered n) (sym (served n))
      ∙ sym (count_sum four_places (λ i. (place_at ps i).«open» && ltb (place_at ps i).number (suc n)) (λ i. (place_at ps i).«open» && ltb (place_at ps i).number n) (λ i. serves (place_at ps i) n) (λ i. one (place_at ps i).«open» (place_at ps i).number))
    where
      one : (u : Bool) (k : ℕ) → cond (u && ltb k (suc n)) 1 0 ≡ cond (u && ltb k n) 1 0 + cond (u && eqb k n) 1 0
      one false k = refl
      one true k = cases (ltb k n) (eqb k n) refl refl
        where
          cases : (a b : Bool) → ltb k n ≡ a → eqb k n ≡ b → cond (ltb k (suc n)) 1 0 ≡ cond a 1 0 + cond b 1 0
          cases true true ea eb = let l = ltb-true k n ea in absurd (omega (arith, eqb-true k n eb))
          cases true false ea eb = let l = ltb-true k n ea in rw (lt-ltb k (suc n) (omega arith)) refl
          cases false true ea eb = let q = eqb-true k n eb in rw (lt-ltb k (suc n) (omega arith)) refl
          cases false false ea eb = let l = ltb-false k n ea in let d = eqb-false k n eb in rw (le-ltb k (suc n) (omega arith)) refl

  -- As many notices are open as places, where a packet's number has 8 bits: a place is free exactly where fewer than four are.
  pub room_told : ((n : ℕ) → 1 ≤ length (f n) → n < most_numbers) → ltb (count_below most_numbers (λ n. some (f n))) four_places ≡ ltb (free_at ps) four_places
  room_told narrow =
      ap (λ n. ltb n four_places) (numbered most_numbers ∙ count_same four_places (λ i. (place_at ps i).«open» && ltb (place_at ps i).number most_numbers) (λ i. (place_at ps i).«open») (λ i l. below i l (place_at ps i).«open» refl))
      ∙ room_open ps
    where
      below : (i : ℕ) → i < four_places → (u : Bool) → (place_at ps i).«open» ≡ u → (u && ltb (place_at ps i).number most_numbers) ≡ u
      below i l true o = lt-ltb (place_at ps i).number most_numbers (narrow (place_at ps i).number (x.stands i l o).some)
      below i l false o = refl
