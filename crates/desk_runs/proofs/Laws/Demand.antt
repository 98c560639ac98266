-- Demand 2 of every run of calls from an empty desk: asking gives what is due for the packets that have come since the notice was opened, and nothing older. Assumes nothing.
use Rattle.std.specs.Prelude.{◌≡◌, refl, Bool, true, false, cond, ℕ, ◌≤◌, ◌<◌, leb, eqb, length, drop}
use Rattle.std.proofs.Common.{sym, ap, ◌∙◌, arith, eqb-true, ne_eqb, le-leb}
use Rattle.std.proofs.lemmas.Bool.{false≢true, lt-leb}
use mathlib.Core.List.Memᴰ
use mathlib.Core.List.{List, [], ◌∷◌, ◌++◌, Memᴰ}
use Rattle.format.specs.Refusals.{bare}
use Rattle.format.specs.Refusals.{Verdict}
use Rattle.places.specs.Places.{good_places}
use Rattle.places.specs.Desk.{refusal_of, first_tests}
use Rattle.places.specs.Replies.{Joined, Missing}
use Rattle.desk_runs.specs.Runs.{Desk, Empty, Call, comes, asks, drops, number_of, run, log, Part, since, came, content_of, not_come, in_order_of, Complete, Given, asked, refusal, due}
use Rattle.desk_runs.specs.Laws.Parts.{each_answer, Member, member_of, all_and_only}
use Rattle.desk_runs.specs.Laws.Told.{Told, good_places_lem, tests_pass, its_place}
use Rattle.desk_runs.proofs.Laws.Steps.{accepts_told, asks_told, drops_told, asked_due}

-- ---- what is due

nothing_in : (ns : List ℕ) → ((k : ℕ) → Memᴰ k ns → ⊥) → ns ≡ []
nothing_in [] h = refl
nothing_in (n ∷ ns) h = absurd (h n (Memᴰ.head refl))

something_in : (k : ℕ) (ns : List ℕ) → Memᴰ k ns → 1 ≤ length ns
something_in k [] m = absurd (Memᴰ.not-nil m)
something_in k (n ∷ ns) m = omega arith

module _ (x : Part) (xs : List Part) where
  -- the missing numbers, and the contents in number order
  abbrev pub lacking : List ℕ
  lacking = not_come x.0.total (x ∷ xs)

  abbrev pub whole : List ℕ
  whole = in_order_of x.0.total (x ∷ xs)

  none_lacking : Complete (x ∷ xs) → lacking ≡ []
  none_lacking h = nothing_in lacking (λ k m. let (l, e) = (all_and_only x.0.total (x ∷ xs) k).0 m in false≢true (sym e ∙ h k l))

  all_came : length lacking ≡ 0 → Complete (x ∷ xs)
  all_came e k l = go (came (x ∷ xs) k) refl
    where
      go : (y : Bool) → came (x ∷ xs) k ≡ y → y ≡ true
      go true q = refl
      go false q = let m = something_in k lacking ((all_and_only x.0.total (x ∷ xs) k).1 (l, q)) in absurd (omega arith)

  module _ (b w : List ℕ) where
    pub complete_due : Complete (x ∷ xs) → length whole ≤ length b → due (x ∷ xs) b w ≡ record { reply = Joined (length whole) x.0.language; notice = whole ++ drop (length whole) b; missing = w }
    complete_due h room = rw (none_lacking h, le-leb (length whole) (length b) room) refl

    pub complete_cramped : Complete (x ∷ xs) → length b < length whole → due (x ∷ xs) b w ≡ refusal b w 6
    complete_cramped h room = rw (none_lacking h, lt-leb (length whole) (length b) room) refl

    pub incomplete_due : (Complete (x ∷ xs) → ⊥) → length lacking ≤ length w → due (x ∷ xs) b w ≡ record { reply = Missing (length lacking); notice = b; missing = lacking ++ drop (length lacking) w }
    incomplete_due h room = rw (ne_eqb (length lacking) 0 (λ e. h (all_came e)), le-leb (length lacking) (length w) room) refl

    pub incomplete_cramped : (Complete (x ∷ xs) → ⊥) → length w < length lacking → due (x ∷ xs) b w ≡ refusal b w 6
    incomplete_cramped h room = rw (ne_eqb (length lacking) 0 (λ e. h (all_came e)), lt-leb (length lacking) (length w) room) refl

    -- the refusal: it tells no bit
    pub number_due : refusal_of (due (x ∷ xs) b w).reply ≡ bare (cond (eqb (length lacking) 0) (cond (leb (length whole) (length b)) 0 6) (cond (leb (length lacking) (length w)) 9 6))
    number_due =
        let u = eqb (length lacking) 0 in
        let v = leb (length whole) (length b) in
        let y = leb (length lacking) (length w) in
        each_answer (λ (g : Given). refusal_of g.reply) u v y _ _ _ _ ∙ sym (each_answer bare u v y 0 6 9 6)

    -- what is handed out is complete
    pub joined_complete : number_of (due (x ∷ xs) b w).reply ≡ 0 → Complete (x ∷ xs)
    joined_complete z = go (eqb (length lacking) 0) (leb (length lacking) (length w)) refl (ap (λ (r : Verdict). r.code) (sym number_due) ∙ z)
      where
        go : (u v : Bool) → eqb (length lacking) 0 ≡ u → ◌≡◌ {A = ℕ} (cond u (cond (leb (length whole) (length b)) 0 6) (cond v 9 6)) 0 → Complete (x ∷ xs)
        go true v e q = all_came (eqb-true (length lacking) 0 e)
        go false true e q = absurd (omega (arith, q))
        go false false e q = absurd (omega (arith, q))

    -- it is never 11
    pub known : number_of (due (x ∷ xs) b w).reply ≡ 11 → ⊥
    known z = go (eqb (length lacking) 0) (leb (length whole) (length b)) (leb (length lacking) (length w)) (ap (λ (r : Verdict). r.code) (sym number_due) ∙ z)
      where
        go : (u v y : Bool) → ◌≡◌ {A = ℕ} (cond u (cond v 0 6) (cond y 9 6)) 11 → ⊥
        go true true y q = omega (arith, q)
        go true false y q = omega (arith, q)
        go false v true q = omega (arith, q)
        go false v false q = omega (arith, q)

-- ---- runs

module _ (d : Desk) (empty : Empty d) where
  pub told : (cs : List Call) → Told (run d cs).places (run d cs).store (λ n. since n (log d cs))
  unfolding run log since
  told [] = record {
    wide = empty.wide;
    deep = empty.deep;
    alone = λ i j a b oi oj e. absurd (false≢true (sym (empty.closed i a) ∙ oi));
    stands = λ i a o. absurd (false≢true (sym (empty.closed i a) ∙ o));
    away = λ n h. refl;
  }
  told (comes m ∷ cs) = accepts_told (told cs) m
  told (asks n b w ∷ cs) = asks_told (told cs) n b w
  told (drops n ∷ cs) = drops_told (told cs) n

  -- ---- the desk's own tests

  -- No run leaves places that the desk refuses with 4,
  pub places_good : (cs : List Call) → good_places (run d cs).places ≡ true
  places_good cs = good_places_lem (told cs)

  -- nor a row or a store that are too short.
  pub never_refused_first : (cs : List Call) → first_tests (run d cs).places (run d cs).store ≡ 0
  never_refused_first cs = tests_pass (told cs)

  -- ---- asking

  -- Demand 2: asking gives what is due for the packets that have come.
  pub asked_is_due : (cs : List Call) (n : ℕ) (b w : List ℕ) → asked n b w (run d cs) ≡ due (since n (log d cs)) b w
  asked_is_due cs n b w = asked_due (told cs) n b w

  -- It is 11 exactly where none has come.
  pub asked_unknown : (cs : List Call) (n : ℕ) (b w : List ℕ) → (number_of (asked n b w (run d cs)).reply ≡ 11 → since n (log d cs) ≡ []) × (since n (log d cs) ≡ [] → refusal_of (asked n b w (run d cs)).reply ≡ bare 11)
  asked_unknown cs n b w =
      let is : (asked n b w (run d cs)).reply ≡ (due (since n (log d cs)) b w).reply = ap (λ g. g.reply) (asked_is_due cs n b w) in
      (λ e. go (since n (log d cs)) (ap number_of (sym is) ∙ e), λ e. ap refusal_of is ∙ ap (λ xs. refusal_of (due xs b w).reply) e)
    where
      go : (xs : List Part) → number_of (due xs b w).reply ≡ 11 → xs ≡ []
      go [] e = refl
      go (x ∷ xs) e = absurd (known x xs b w e)

  module _ (cs : List Call) (n : ℕ) (x : Part) (xs : List Part) (have : since n (log d cs) ≡ x ∷ xs) (b w : List ℕ) where
    is_due : asked n b w (run d cs) ≡ due (x ∷ xs) b w
    is_due = asked_is_due cs n b w ∙ ap (λ xs. due xs b w) have

    -- With room enough, the notice is handed out exactly when all its packets have come,
    pub handed_out_exactly : length (whole x xs) ≤ length b → (number_of (asked n b w (run d cs)).reply ≡ 0 → Complete (x ∷ xs)) × (Complete (x ∷ xs) → refusal_of (asked n b w (run d cs)).reply ≡ bare 0)
    handed_out_exactly room =
        let is = ap (λ g. refusal_of g.reply) is_due in
        (λ e. joined_complete x xs b w (ap (λ (r : Verdict). r.code) (sym is) ∙ e), λ h. is ∙ ap (λ g. refusal_of g.reply) (complete_due x xs b w h room))

    -- in number order, with its language;
    pub asked_complete : Complete (x ∷ xs) → length (whole x xs) ≤ length b
        → asked n b w (run d cs) ≡ record { reply = Joined (length (whole x xs)) x.0.language; notice = whole x xs ++ drop (length (whole x xs)) b; missing = w }
    asked_complete h room = is_due ∙ complete_due x xs b w h room

    -- before that the missing numbers are listed (all and only those: Parts `all_and_only`, `rising`).
    pub asked_incomplete : (Complete (x ∷ xs) → ⊥) → length (lacking x xs) ≤ length w
        → asked n b w (run d cs) ≡ record { reply = Missing (length (lacking x xs)); notice = b; missing = lacking x xs ++ drop (length (lacking x xs)) w }
    asked_incomplete h room = is_due ∙ incomplete_due x xs b w h room

    -- Where the room is too short, nothing changes.
    pub asked_cramped_buffer : Complete (x ∷ xs) → length b < length (whole x xs) → asked n b w (run d cs) ≡ refusal b w 6
    asked_cramped_buffer h room = is_due ∙ complete_cramped x xs b w h room

    pub asked_cramped_row : (Complete (x ∷ xs) → ⊥) → length w < length (lacking x xs) → asked n b w (run d cs) ≡ refusal b w 6
    asked_cramped_row h room = is_due ∙ incomplete_cramped x xs b w h room

    -- All of them have one total and one language, and those of one number have one content.
    pub one_notice : (y : Part) → Memᴰ y (x ∷ xs) → Member x.0.total x.0.language y × (content_of (x ∷ xs) y.0.own ≡ y.1)
    one_notice y h =
        let (i, st) = its_place (told cs) n x xs have in
        let first = st.members.0 in
        let m = member_of _ _ (x ∷ xs) st.members y h in
        (record { fit = m.fit; total = m.total ∙ sym first.total; language = m.language ∙ sym first.language }, st.agreed y h)
