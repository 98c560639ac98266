-- Each call keeps what is told of the desk, where its entry of the log is counted; and asking gives what is due. Assumes nothing.
use Rattle.std.specs.Prelude.{◌≡◌, Bool, ◌||◌, leb, ltb, eqb, length, get_or, set, take, drop, replicate}
use Rattle.std.proofs.Math.Path.{refl, sym}
use Rattle.std.proofs.Common.{◌∙◌, subst, arith, ltb-true, ltb-false, eqb-true, eq-eqb, ne_eqb}
use Rattle.std.proofs.Math.Bool.{true, false, cond}
use Rattle.std.proofs.lemmas.Bool.{false≢true}
use mathlib.Core.List.Memᴰ
use mathlib.Core.List.{List, [], ◌∷◌, ◌++◌}
use Prim.Native.Nat.{ℕ, zero, suc, ◌+◌, ◌≤◌, ◌<◌}
use Rattle.std.proofs.lemmas.List.{length-replicate, set-get_or}
use Rattle.format.specs.Fmt.{Out, accepted, refused}
use Rattle.format.specs.Promises.{answered, read_record}
use Rattle.format.specs.Refusals.{bare}
use Rattle.packet.specs.Packet.{most_packets, part_bytes_of, packets, record_of}
use Rattle.packet.specs.declared.reading.Packet.{Packet}
use Rattle.packet.specs.Laws.Accepted.{Fit, read_fit}
use Rattle.places.specs.Places.{blank, held, lacks, opened, holding, freed, four_places, place_at, front, open_at, free_at}
use Rattle.places.specs.Desk.{cell, in_cell_of, laid, alike, applied, first_tests, stays, Accepting, turned_away, taken, contradicts, joins, opens, received, accepting, turns, Asking, not_answered, answers, asking, Dropping, dropping, missing_below, joined_below}
use Rattle.places.specs.declared.Place.{Place}
use Rattle.places.specs.Replies.{Done, Again, Joined, Missing, Refused}
use Rattle.places.specs.Laws.Alike.{alike_same}
use Rattle.places.specs.Laws.Ends.{agreeing}
use Rattle.places.specs.Laws.Front.{front_open, front_free, front_at, Unopened, open_found, open_none, free_found}
use Rattle.places.specs.Laws.Joined.{cell_within}
use Rattle.places.specs.Laws.Laid.{length_laid, other_cell}
use Rattle.desk_runs.specs.Runs.{comes, asks, drops, number_of, Part, grown, not_come, in_order_of, content_of, given, due}
use Rattle.desk_runs.specs.Laws.Parts.{Member, each_answer}
use Rattle.desk_runs.specs.Laws.Stands.{Stands, in_cell, missing_is, joined_is, put_in_lem, again}
use Rattle.desk_runs.specs.Laws.Told.{Told, tests_pass, retold, filled, emptied}

-- ---- the entry of a packet that was accepted

-- it is counted under its number,
grown_here : (m : List ℕ) (y : Part) (code n : ℕ) (xs : List Part) → read_record packets record_of m ≡ accepted y → code ≡ 0 → y.0.number ≡ n → grown n (comes m, code) xs ≡ y ∷ xs
grown_here m y code n xs e z q = rw (z, e, eq-eqb y.0.number n q) refl

-- and under no other
grown_there : (m : List ℕ) (y : Part) (code n : ℕ) (xs : List Part) → read_record packets record_of m ≡ accepted y → code ≡ 0 → (y.0.number ≡ n → ⊥) → grown n (comes m, code) xs ≡ xs
grown_there m y code n xs e z d = rw (z, e, ne_eqb y.0.number n d) refl

-- a place that is opened holds nothing else
none_held : (n k : ℕ) → ◌≡◌ {A = ℕ} (get_or (replicate n 0) k 0) 0
none_held zero k = refl
none_held (suc n) zero = refl
none_held (suc n) (suc k) = none_held n k

module _ {ps : List Place} {s : List ℕ} {f : ℕ → List Part} (x : Told ps s f) where
  -- ---- a packet comes in

  abbrev Accepted : List ℕ → Accepting → Type 0
  Accepted m o = Told (applied ps o.change) o.store (λ n. grown n (comes m, number_of o.reply) (f n))

  module _ (m : List ℕ) (y : Part) (reads : read_record packets record_of m ≡ accepted y) where
    abbrev r : Packet
    r = y.0

    abbrev c : List ℕ
    c = y.1

    fit : Fit r c
    fit = read_fit m y reads

    low : r.own < most_packets
    low = omega (arith, fit.own, fit.total)

    fits : (i : ℕ) → i < four_places → cell i r.own + length c ≤ length s
    fits i l = cell_within i r.own (length c) s l low fit.few x.deep

    others : (i : ℕ) → i < four_places → (j k n : ℕ) → (j ≡ i → ⊥) → k < most_packets → n ≤ part_bytes_of → take n (drop (cell j k) (laid s (cell i r.own) c)) ≡ take n (drop (cell j k) s)
    others i l j k n d a b = other_cell s i r.own c (fits i l) low fit.few j k n a b (λ e q. d (sym e))

    -- its notice is open in place i
    joins_told : (i : ℕ) → i < four_places → (place_at ps i).«open» ≡ true → (place_at ps i).number ≡ r.number → Accepted m (joins s i (place_at ps i) r c)
    unfolding joins
    joins_told i l o q = go (contradicts s i (place_at ps i) r c) (lacks (place_at ps i) r.own) refl refl
      where
        p : Place
        p = place_at ps i

        st : Stands s i p (f p.number)
        st = x.stands i l o

        go : (u v : Bool) → contradicts s i p r c ≡ u → lacks p r.own ≡ v
            → Accepted m (cond u (turned_away s (bare 7)) (cond v (taken s i (holding p r.own (length c)) r c) (record { reply = Again; change = stays; store = s })))
        go true v eu ev = retold x (λ n. grown n (comes m, 7) (f n)) (λ n. refl)
        go false true eu ev =
            let (language, total, h) = agreeing s i p r c eu in
            let member : Member p.total p.language y = record { fit = fit; total = total; language = language } in
            filled x i l (holding p r.own (length c)) (laid s (cell i r.own) c) (λ n. grown n (comes m, 0) (f n)) (length_laid s (cell i r.own) c (fits i l)) o
            (λ j a d oj e. d (x.alone j i a l oj o e)) (λ k. refl) (others i l)
            (rw (grown_here m y 0 p.number (f p.number) reads refl (sym q)) (put_in_lem s i (holding p r.own (length c)) y (f p.number) p.sizes (fits i l) (member, st.members) st.agreed (sym (st.sizes r.own) ∙ eqb-true (held p r.own) 0 ev) st.row st.sizes st.cells refl))
            (λ n d. grown_there m y 0 n (f n) reads refl (λ e. d (sym e ∙ sym q)))
        go false false eu ev =
            let (language, total, h) = agreeing s i p r c eu in
            let member : Member p.total p.language y = record { fit = fit; total = total; language = language } in
            let same = sym (in_cell st r.own) ∙ alike_same (in_cell_of s i p r.own) c (subst (λ v. (v || alike (in_cell_of s i p r.own) c) ≡ true) ev h) in
            subst (λ qs. Told qs s (λ n. grown n (comes m, 0) (f n))) (set-get_or ps i blank)
            (filled x i l p s (λ n. grown n (comes m, 0) (f n)) refl o (λ j a d oj e. d (x.alone j i a l oj o e)) (λ k. refl) (λ j k n d a b. refl)
            (rw (grown_here m y 0 p.number (f p.number) reads refl (sym q)) (again y st member same)) (λ n d. grown_there m y 0 n (f n) reads refl (λ e. d (sym e ∙ sym q))))

    -- it is not
    opens_told : Unopened ps r.number → Accepted m (opens s (free_at ps) r c)
    unfolding content_of
    opens_told h = go (ltb (free_at ps) four_places) refl
      where
        i : ℕ
        i = free_at ps

        go : (u : Bool) → ltb i four_places ≡ u → Accepted m (cond u (taken s i (opened r (length c)) r c) (turned_away s (bare 8)))
        go true e =
            let l = ltb-true i four_places e in
            let shut = free_found ps l in
            let member : Member r.total r.language y = record { fit = fit; total = refl; language = refl } in
            filled x i l (opened r (length c)) (laid s (cell i r.own) c) (λ n. grown n (comes m, 0) (f n)) (length_laid s (cell i r.own) c (fits i l)) refl
            (λ j a d oj q. h j a oj q) (λ o. absurd (false≢true (sym shut ∙ o))) (others i l)
            (rw (grown_here m y 0 r.number (f r.number) reads refl refl, x.away r.number h) (put_in_lem s i (opened r (length c)) y [] (replicate most_packets 0) (fits i l) (member, tt) (λ z k. absurd (Memᴰ.not-nil k)) refl (length-replicate {A = ℕ} most_packets 0) (none_held most_packets) (λ k. refl) refl))
            (λ n d. grown_there m y 0 n (f n) reads refl (λ q. d (sym q)))
        go false e = retold x (λ n. grown n (comes m, 8) (f n)) (λ n. refl)

    received_told : Accepted m (received (front ps) s r c)
    unfolding received
    received_told = rw (front_open ps r.number, front_free ps) (go (ltb (open_at ps r.number) four_places) refl)
      where
        i : ℕ
        i = open_at ps r.number

        go : (u : Bool) → ltb i four_places ≡ u → Accepted m (cond u (joins s i (place_at (front ps) i) r c) (opens s (free_at ps) r c))
        go true e = let l = ltb-true i four_places e in let (o, q) = open_found ps r.number l in rw (front_at ps i l) (joins_told i l o q)
        go false e = opens_told (open_none ps r.number (ltb-false i four_places e))

  pub accepts_told : (m : List ℕ) → Accepted m (accepting ps s m)
  unfolding accepting
  accepts_told m = go (read_record packets record_of m) refl
    where
      go : (o : Out Part) → read_record packets record_of m ≡ o → Accepted m (answered (λ x. let code = first_tests ps s in cond (eqb code 0) (received (front ps) s x.0 x.1) (turned_away s (bare code))) (turned_away s) o)
      go (accepted y) e = rw (tests_pass x) (received_told m y e)
      go (refused n at) e = retold x (λ k. grown k (comes m, n) (f k)) (λ k. rw e (either (eqb n 0) (f k)))
        where
          either : (u : Bool) (xs : List Part) → cond u xs xs ≡ xs
          either true xs = refl
          either false xs = refl

  -- ---- a notice is asked for, or dropped

  -- the place of n is freed
  freed_told : (n i : ℕ) → i < four_places → (place_at ps i).«open» ≡ true → (place_at ps i).number ≡ n → Told (set ps i (freed (place_at ps i))) s (λ k. cond (eqb n k) [] (f k))
  freed_told n i l o q =
      emptied x i l (freed (place_at ps i)) (λ k. cond (eqb n k) [] (f k)) refl o (rw (eq-eqb n (place_at ps i).number (sym q)) refl)
      (λ k d. rw (ne_eqb n k (λ e. d (sym e ∙ sym q))) refl)

  abbrev Asked : ℕ → List ℕ → List ℕ → Asking → Type 0
  Asked n b w o = Told (applied ps o.change) s (λ k. grown k (asks n b w, number_of o.reply) (f k))

  answers_told : (n : ℕ) (b w : List ℕ) (i : ℕ) → i < four_places → (place_at ps i).«open» ≡ true → (place_at ps i).number ≡ n → Asked n b w (answers s i (place_at ps i) b w)
  unfolding answers
  answers_told n b w i l o q = go (eqb (length ns) 0) (leb (length c) (length b)) (leb (length ns) (length w))
    where
      p : Place
      p = place_at ps i

      ns : List ℕ
      ns = missing_below p.total p

      c : List ℕ
      c = joined_below p.total s i p

      go : (u v y : Bool)
          → Asked n b w (cond u (cond v (record { reply = Joined (length c) p.language; change = turns i (freed p); notice = c ++ drop (length c) b; missing = w }) (not_answered b w (bare 6))) (cond y (record { reply = Missing (length ns); change = stays; notice = b; missing = ns ++ drop (length ns) w }) (not_answered b w (bare 6))))
      go true true y = freed_told n i l o q
      go true false y = retold x (λ k. grown k (asks n b w, 6) (f k)) (λ k. refl)
      go false v true = retold x (λ k. grown k (asks n b w, 9) (f k)) (λ k. refl)
      go false v false = retold x (λ k. grown k (asks n b w, 6) (f k)) (λ k. refl)

  pub asks_told : (n : ℕ) (b w : List ℕ) → Asked n b w (asking ps s n b w)
  unfolding asking
  asks_told n b w = rw (tests_pass x, front_open ps n) (go (ltb (open_at ps n) four_places) refl)
    where
      i : ℕ
      i = open_at ps n

      go : (u : Bool) → ltb i four_places ≡ u → Asked n b w (cond u (answers s i (place_at (front ps) i) b w) (not_answered b w (bare 11)))
      go true e = let l = ltb-true i four_places e in let (o, q) = open_found ps n l in rw (front_at ps i l) (answers_told n b w i l o q)
      go false e = retold x (λ k. grown k (asks n b w, 11) (f k)) (λ k. refl)

  abbrev Dropped : ℕ → Dropping → Type 0
  Dropped n o = Told (applied ps o.change) s (λ k. grown k (drops n, number_of o.reply) (f k))

  pub drops_told : (n : ℕ) → Dropped n (dropping ps s n)
  unfolding dropping
  drops_told n = rw (tests_pass x, front_open ps n) (go (ltb (open_at ps n) four_places) refl)
    where
      i : ℕ
      i = open_at ps n

      go : (u : Bool) → ltb i four_places ≡ u → Dropped n (cond u (record { reply = Done; change = turns i (freed (place_at (front ps) i)) }) (record { reply = Refused (bare 11); change = stays }))
      go true e = let l = ltb-true i four_places e in let (o, q) = open_found ps n l in rw (front_at ps i l) (freed_told n i l o q)
      go false e = retold x (λ k. grown k (drops n, 11) (f k)) (λ k. refl)

  -- ---- Asking gives what is due.

  answers_due : (b w : List ℕ) (i : ℕ) (p : Place) (xs : List Part) → Stands s i p xs → given (answers s i p b w) ≡ due xs b w
  unfolding answers
  answers_due b w i p [] st = absurd (omega (arith, st.some))
  answers_due b w i p (z ∷ xs) st =
      let total = st.members.0.total in
      let language = st.members.0.language in
      rw (missing_is st p.total, joined_is st p.total, sym total, sym language) (
      let ns = not_come z.0.total (z ∷ xs) in
      let c = in_order_of z.0.total (z ∷ xs) in
      each_answer given (eqb (length ns) 0) (leb (length c) (length b)) (leb (length ns) (length w)) _ _ _ _
      )

  pub asked_due : (n : ℕ) (b w : List ℕ) → given (asking ps s n b w) ≡ due (f n) b w
  unfolding asking
  asked_due n b w = rw (tests_pass x, front_open ps n) (go (ltb (open_at ps n) four_places) refl)
    where
      i : ℕ
      i = open_at ps n

      go : (u : Bool) → ltb i four_places ≡ u → given (cond u (answers s i (place_at (front ps) i) b w) (not_answered b w (bare 11))) ≡ due (f n) b w
      go true e =
          let l = ltb-true i four_places e in
          let (o, q) = open_found ps n l in
          let st : Stands s i (place_at ps i) (f n) = subst (λ k. Stands s i (place_at ps i) (f k)) q (x.stands i l o) in
          rw (front_at ps i l) (answers_due b w i (place_at ps i) (f n) st)
      go false e = rw (x.away n (open_none ps n (ltb-false i four_places e))) refl
