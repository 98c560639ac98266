-- What a packet is answered in every run of calls from an empty desk: what is due for it (Taking `due_for`), since each open place stands for the packets that have come of its number, and as many notices are open as places. So the desk takes in what it should. Assumes nothing.
use Rattle.std.specs.Prelude.{◌≡◌, Bool, not, ◌||◌, ltb, eqb, length}
use Rattle.std.proofs.Math.Path.{refl, sym}
use Rattle.std.proofs.Common.{ap, ◌∙◌, subst, arith, ltb-true, ltb-false, lt-ltb, eqb-true, eq-eqb}
use Rattle.std.proofs.Math.Bool.{true, false, cond}
use Rattle.std.proofs.lemmas.Bool.{false≢true}
use mathlib.Core.List.{List, [], ◌∷◌, Memᴰ}
use Prim.Native.Nat.{ℕ, ◌≤◌, ◌<◌}
use Rattle.format.specs.Fmt.{Out, accepted, refused}
use Rattle.format.specs.Promises.{answered, read_record}
use Rattle.format.specs.Refusals.{bare}
use Rattle.packet.specs.Packet.{packets, record_of}
use Rattle.places.specs.Places.{four_places, place_at, front, open_at, free_at}
use Rattle.places.specs.Desk.{alike, refusal_of, Accepting, turned_away, joins, opens, received, accepting}
use Rattle.places.specs.declared.Place.{Place}
use Rattle.places.specs.Replies.{Done, Again, Refused}
use Rattle.places.specs.Laws.Alike.{same_alike}
use Rattle.places.specs.Laws.Front.{front_open, front_free, front_at, open_found, open_none}
use Rattle.desk_runs.specs.Runs.{Desk, Empty, Call, comes, reply_to, run, log, Part, since, came, content_of}
use Rattle.desk_runs.specs.Taking.{most_numbers, open_notices, agrees, welcome, due_for}
use Rattle.desk_runs.specs.Laws.Counts.{room_told}
use Rattle.desk_runs.proofs.Laws.Demand.{told}
use Rattle.desk_runs.specs.Laws.Stands.{Stands, in_cell, lacks_came}
use Rattle.desk_runs.specs.Laws.Told.{Told, tests_pass, its_place}
use Rattle.desk_runs.specs.Laws.Takes.{since_number}

-- ---- the desk against the packets that have come

module _ {ps : List Place} {s : List ℕ} {f : ℕ → List Part} (x : Told ps s f) (n : ℕ) (room : ltb n four_places ≡ ltb (free_at ps) four_places) where
  -- its notice is open
  joins_due : (y : Part) (i : ℕ) (p : Place) (xs : List Part) → Stands s i p xs → (joins s i p y.0 y.1).reply ≡ welcome y xs n
  unfolding joins
  joins_due y i p [] st = absurd (omega (arith, st.some))
  joins_due y i p (z ∷ zs) st =
      let total = st.members.0.total in
      let language = st.members.0.language in
      rw (lacks_came st y.0.own, in_cell st y.0.own, sym total, sym language) (go (agrees y z zs) (came (z ∷ zs) y.0.own) _ _ refl refl)
    where
      go : (u v : Bool) (new old : Accepting) → new.reply ≡ Done → old.reply ≡ Again → (cond (not u) (turned_away s (bare 7)) (cond (not v) new old)).reply ≡ cond u (cond v Again Done) (Refused (bare 7))
      go true true new old a b = b
      go true false new old a b = a
      go false v new old a b = refl

  received_due : (y : Part) → (received (front ps) s y.0 y.1).reply ≡ welcome y (f y.0.number) n
  unfolding received
  received_due y = rw (front_open ps y.0.number, front_free ps) (go (ltb i four_places) refl)
    where
      i : ℕ
      i = open_at ps y.0.number

      free : (u : Bool) (a : Accepting) → a.reply ≡ Done → (cond u a (turned_away s (bare 8))).reply ≡ cond u Done (Refused (bare 8))
      free true a e = e
      free false a e = refl

      go : (u : Bool) → ltb i four_places ≡ u → (cond u (joins s i (place_at (front ps) i) y.0 y.1) (opens s (free_at ps) y.0 y.1)).reply ≡ welcome y (f y.0.number) n
      go true e =
          let l = ltb-true i four_places e in
          let (o, q) = open_found ps y.0.number l in
          rw (front_at ps i l) (joins_due y i (place_at ps i) (f y.0.number) (subst (λ k. Stands s i (place_at ps i) (f k)) q (x.stands i l o)))
      go false e =
          let none = open_none ps y.0.number (ltb-false i four_places e) in
          free (ltb (free_at ps) four_places) _ refl ∙ ap (λ u. cond u Done (Refused (bare 8))) (sym room) ∙ ap (λ xs. welcome y xs n) (sym (x.away y.0.number none))

  accepting_due : (m : List ℕ) → (accepting ps s m).reply ≡ answered (λ y. welcome y (f y.0.number) n) Refused (read_record packets record_of m)
  unfolding accepting
  accepting_due m = rw (tests_pass x) (go (read_record packets record_of m))
    where
      go : (o : Out Part) → (answered (λ y. received (front ps) s y.0 y.1) (turned_away s) o).reply ≡ answered (λ y. welcome y (f y.0.number) n) Refused o
      go (accepted y) = received_due y
      go (refused c p) = refl

-- ---- runs

-- where those of own number k have content c, and one has come, that is the content
content_is : (k : ℕ) (c : List ℕ) (zs : List Part) → ((z : Part) → Memᴰ z zs → z.0.own ≡ k → z.1 ≡ c) → came zs k ≡ true → content_of zs k ≡ c
unfolding came content_of
content_is k c [] h e = absurd (false≢true e)
content_is k c (z ∷ zs) h e = first (eqb z.0.own k) refl e (content_is k c zs (λ z m. h z (Memᴰ.tail m)))
  where
    first : (u : Bool) → eqb z.0.own k ≡ u → (u || came zs k) ≡ true → (came zs k ≡ true → content_of zs k ≡ c) → cond u z.1 (content_of zs k) ≡ c
    first true q e r = h z (Memᴰ.head refl) (eqb-true z.0.own k q)
    first false q e r = r e

module _ (d : Desk) (empty : Empty d) (cs : List Call) where
  narrow : (n : ℕ) → 1 ≤ length (since n (log d cs)) → n < most_numbers
  narrow n l = go (since n (log d cs)) refl l
    where
      go : (xs : List Part) → since n (log d cs) ≡ xs → 1 ≤ length xs → n < most_numbers
      go [] e l = absurd (omega arith)
      go (y ∷ ys) e l =
          let (i, st) = its_place (told d empty cs) n y ys e in
          let is = since_number n (log d cs) y (subst (Memᴰ y) (sym e) (Memᴰ.head refl)) in
          omega (arith, st.members.0.fit.number, is)

  -- Demand 2: a packet is answered what is due for it.
  pub accepted_is_due : (m : List ℕ) → reply_to (comes m) (run d cs) ≡ due_for (log d cs) m
  accepted_is_due m = let x = told d empty cs in accepting_due x (open_notices (log d cs)) (room_told x narrow) m

  module _ (m : List ℕ) (x : Part) (reads : read_record packets record_of m ≡ accepted x) where
    is_welcome : reply_to (comes m) (run d cs) ≡ welcome x (since x.0.number (log d cs)) (open_notices (log d cs))
    is_welcome = accepted_is_due m ∙ rw reads refl

    -- A packet is taken in where packets of its number have come, with its language and total, and none of its own number with another content;
    pub joins_its_notice : (y : Part) (ys : List Part) → since x.0.number (log d cs) ≡ y ∷ ys → x.0.language ≡ y.0.language → x.0.total ≡ y.0.total
        → ((z : Part) → Memᴰ z (y ∷ ys) → z.0.own ≡ x.0.own → z.1 ≡ x.1) → refusal_of (reply_to (comes m) (run d cs)) ≡ bare 0
    joins_its_notice y ys have language total same =
        ap refusal_of (is_welcome ∙ ap (λ xs. welcome x xs (open_notices (log d cs))) have)
        ∙ rw (eq-eqb x.0.language y.0.language language, eq-eqb x.0.total y.0.total total) (go (came (y ∷ ys) x.0.own) refl)
      where
        go : (u : Bool) → came (y ∷ ys) x.0.own ≡ u → refusal_of (cond (not u || alike (content_of (y ∷ ys) x.0.own) x.1) (cond u Again Done) (Refused (bare 7))) ≡ bare 0
        go true e = rw (content_is x.0.own x.1 (y ∷ ys) same e, same_alike x.1) refl
        go false e = refl

    -- and where none has come and fewer than four notices are open.
    pub opens_its_notice : since x.0.number (log d cs) ≡ [] → open_notices (log d cs) < four_places → reply_to (comes m) (run d cs) ≡ Done
    opens_its_notice none few = is_welcome ∙ ap (λ xs. welcome x xs (open_notices (log d cs))) none ∙ rw (lt-ltb (open_notices (log d cs)) four_places few) refl
