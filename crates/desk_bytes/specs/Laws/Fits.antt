-- The change of each call fits its reply: a place changes exactly where the reply says so, it is one of the four, and it has a size for each packet where these have. Assumes nothing.
use Rattle.std.specs.Prelude.{◌≡◌, Bool, true, false, ℕ, ◌<◌, eqb, leb, ltb, replicate}
use Rattle.std.proofs.Math.Path.{refl}
use Rattle.std.proofs.Common.{◌∙◌, length-set, ltb-true}
use Rattle.std.proofs.Math.Bool.{cond}
use mathlib.Core.List.{List}
use Rattle.std.proofs.Math.ListN.{length, length-replicate}
use Rattle.format.specs.Fmt.{Out, accepted, refused}
use Rattle.format.specs.Promises.{answered, read_record}
use Rattle.format.specs.Refusals.{shown, bare}
use Rattle.format.specs.Refusals.{Verdict}
use Rattle.packet.specs.Packet.{most_packets, packets, record_of}
use Rattle.packet.specs.declared.reading.Packet.{Packet}
use Rattle.places.specs.Desk.{Change, stays, turns, first_tests, Accepting, turned_away, contradicts, joins, received, accepting, Asking, missing_below, joined_below, not_answered, answers, asking, Dropping, dropping}
use Rattle.places.specs.Places.{lacks, holding, opened, freed, four_places, place_at, front, open_at, free_at}
use Rattle.places.specs.declared.Place.{Place}
use Rattle.places.specs.Replies.{Reply}
use Rattle.places.specs.Replies.{Done, Again, Joined, Missing, Refused}

-- whether a reply comes with a place that changed
abbrev pub moves : Reply → Bool
moves Done = true
moves Again = false
moves (Joined n l) = true
moves (Missing n) = false
moves (Refused c) = false

pub data Fits (a : Reply) : Change → Type 0 where
  none : moves a ≡ false → Fits a stays
  one : moves a ≡ true → (i : ℕ) → i < four_places → (p : Place) → length p.sizes ≡ most_packets → Fits a (turns i p)

module _ {A : Type 0} (replyOf : A → Reply) (changeOf : A → Change) where
  pub record Fitting (o : A) : Type 0 where
    pub is : Fits (replyOf o) (changeOf o)

  -- by a test whose outcome counts
  by : (t : Bool) {x y : A} → (t ≡ true → Fitting x) → Fitting y → Fitting (cond t x y)
  by true p q = p refl
  by false p q = q

abbrev Accepted : Accepting → Type 0
Accepted = Fitting (λ o. o.reply) (λ o. o.change)

abbrev Asked : Asking → Type 0
Asked = Fitting (λ o. o.reply) (λ o. o.change)

abbrev Dropped : Dropping → Type 0
Dropped = Fitting (λ o. o.reply) (λ o. o.change)

abbrev accept_by : (t : Bool) {x y : Accepting} → (t ≡ true → Accepted x) → Accepted y → Accepted (cond t x y)
accept_by = by (λ (o : Accepting). o.reply) (λ o. o.change)

abbrev ask_by : (t : Bool) {x y : Asking} → (t ≡ true → Asked x) → Asked y → Asked (cond t x y)
ask_by = by (λ (o : Asking). o.reply) (λ o. o.change)

abbrev drop_by : (t : Bool) {x y : Dropping} → (t ≡ true → Dropped x) → Dropped y → Dropped (cond t x y)
drop_by = by (λ (o : Dropping). o.reply) (λ o. o.change)

away : (s : List ℕ) (r : Verdict) → Accepted (turned_away s r)
away s r = record { is = none refl }

unanswered : (b w : List ℕ) (r : Verdict) → Asked (not_answered b w r)
unanswered b w r = record { is = none refl }

module _ (ps : List Place) (sized : (i : ℕ) → i < four_places → length (place_at (front ps) i).sizes ≡ most_packets) where
  joins_fits : (s : List ℕ) (i : ℕ) → i < four_places → (r : Packet) (c : List ℕ) → Accepted (joins s i (place_at (front ps) i) r c)
  unfolding joins
  joins_fits s i low r c =
      let p = place_at (front ps) i in
      accept_by (contradicts s i p r c) (λ e. away s (bare 7))
      (accept_by (lacks p r.own) (λ e. record { is = one refl i low (holding p r.own (length c)) (length-set p.sizes r.own (length c) ∙ sized i low) }) (record { is = none refl }))

  pub accepting_fits : (s m : List ℕ) → Accepted (accepting ps s m)
  unfolding accepting received
  accepting_fits s m = go (read_record packets record_of m)
    where
      go : (o : Out (Packet × List ℕ)) → Accepted (answered (λ x. let code = first_tests ps s in cond (eqb code 0) (received (front ps) s x.0 x.1) (turned_away s (bare code))) (turned_away s) o)
      go (accepted (r, c)) =
          let i = open_at (front ps) r.number in
          let j = free_at (front ps) in
          let none_held : length (replicate {A = ℕ} most_packets 0) ≡ most_packets = length-replicate {A = ℕ} most_packets 0 in
          accept_by (eqb (first_tests ps s) 0)
          (λ e. accept_by (ltb i four_places) (λ l. joins_fits s i (ltb-true i four_places l) r c)
          (accept_by (ltb j four_places) (λ l. record { is = one refl j (ltb-true j four_places l) (opened r (length c)) (length-set (replicate most_packets 0) r.own (length c) ∙ none_held) }) (away s (bare 8))))
          (away s (bare (first_tests ps s)))
      go (refused n p) = away s (shown n p)

  pub asking_fits : (s : List ℕ) (n : ℕ) (b w : List ℕ) → Asked (asking ps s n b w)
  unfolding asking answers
  asking_fits s n b w =
      let i = open_at (front ps) n in
      let p = place_at (front ps) i in
      let ns = missing_below p.total p in
      let c = joined_below p.total s i p in
      ask_by (eqb (first_tests ps s) 0)
      (λ e. ask_by (ltb i four_places)
      (λ l. ask_by (eqb (length ns) 0) (λ z. ask_by (leb (length c) (length b)) (λ r. record { is = one refl i (ltb-true i four_places l) (freed p) (sized i (ltb-true i four_places l)) }) (unanswered b w (bare 6)))
      (ask_by (leb (length ns) (length w)) (λ r. record { is = none refl }) (unanswered b w (bare 6))))
      (unanswered b w (bare 11)))
      (unanswered b w (bare (first_tests ps s)))

  pub dropping_fits : (s : List ℕ) (n : ℕ) → Dropped (dropping ps s n)
  unfolding dropping
  dropping_fits s n =
      let i = open_at (front ps) n in
      drop_by (eqb (first_tests ps s) 0)
      (λ e. drop_by (ltb i four_places) (λ l. record { is = one refl i (ltb-true i four_places l) (freed (place_at (front ps) i)) (sized i (ltb-true i four_places l)) }) (record { is = none refl })) (record { is = none refl })
