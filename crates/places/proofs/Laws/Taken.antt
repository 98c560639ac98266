-- The desk takes in what it should: where the first tests pass, a packet that reading accepts is answered 0 if its notice is open, agrees with it and lacks it or holds the same bytes, and if its notice is not open and a place is free. Since the places are good, an open place of its number is the one that is found. Assumes nothing.
use Rattle.std.specs.Prelude.{◌≡◌, Bool, true, false, not, List, ℕ, ◌≤◌, ◌<◌, ltb}
use Rattle.std.proofs.Math.Path.{refl}
use Rattle.std.proofs.Common.{sym, ap, ◌∙◌, arith}
use Rattle.std.proofs.lemmas.Bool.{false≢true}
use Rattle.std.proofs.Math.Bool.{and-eq-true_iff}
use borrow.Author.Tests.{ltb-true, ltb-false, eq-eqb, ne_eqb, lt-ltb, le-ltb}
use Rattle.format.specs.Fmt.{accepted}
use Rattle.format.specs.Promises.{read_record}
use Rattle.format.specs.Refusals.{bare}
use Rattle.packet.specs.Packet.{packets, record_of}
use Rattle.packet.specs.declared.reading.Packet.{Packet}
use Rattle.places.specs.Places.{every_below, held, passes, serves, clash, four_places, place_at, front, all_apart, good_places, open_at, free_at}
use Rattle.places.specs.Desk.{refusal_of, applied, turn_of, first_tests, Accepting, joins, received, accepting}
use Rattle.places.specs.Promises.{Accepts, AcceptTurn}
use Rattle.places.specs.declared.Place.{Place}
use Rattle.places.specs.Replies.{Reply}
use Rattle.places.specs.Replies.{Turn}
use Rattle.places.specs.Laws.Alike.{same_alike}
use Rattle.places.specs.Laws.Below.{every_each, first_least}
use Rattle.places.specs.Laws.Front.{front_open, front_free, front_at, Unopened, open_found}
use Rattle.places.specs.Laws.Good.{tests_passed}
use Rattle.places.specs.Laws.Row.{turned}
use Rattle.places.specs.Laws.Taken.{Agrees, Takes, lacking, holding_it, new, takes_zero}

-- ---- which place is found

-- of good places no two open ones have one number, so an open place of message number n is the one that is found
open_is : (ps : List Place) (n i : ℕ) → good_places ps ≡ true → i < four_places → (place_at ps i).«open» ≡ true → (place_at ps i).number ≡ n → open_at ps n ≡ i
unfolding good_places all_apart open_at
open_is ps n i good low o q = go (ltb i k) (ltb k i) refl refl
  where
    k : ℕ
    k = open_at ps n

    is : serves (place_at ps i) n ≡ true
    is = rw (o, eq-eqb (place_at ps i).number n q) refl

    apart : k < i → not (clash (place_at ps k) (place_at ps i)) ≡ true
    apart l =
        let (each, _) = (and-eq-true_iff (all_apart ps) (every_below four_places (λ i. passes (place_at ps i)))).0 good in
        every_each i (λ j. not (clash (place_at ps j) (place_at ps i))) (every_each four_places (λ i. every_below i (λ j. not (clash (place_at ps j) (place_at ps i)))) each i low) k l

    go : (u v : Bool) → ltb i k ≡ u → ltb k i ≡ v → k ≡ i
    go true v eu ev = absurd (false≢true (sym (first_least 0 four_places (λ i. serves (place_at ps i) n) i (omega arith) (ltb-true i k eu)) ∙ is))
    go false true eu ev =
        let l = ltb-true k i ev in
        let (ok, nk) = open_found ps n (omega (arith, l, low)) in
        let both : clash (place_at ps k) (place_at ps i) ≡ true = rw (o, ok, eq-eqb (place_at ps k).number (place_at ps i).number (nk ∙ sym q)) refl in
        absurd (false≢true (ap not (sym both) ∙ apart l))
    go false false eu ev = omega (arith, ltb-false i k eu, ltb-false k i ev)

-- a place that is not open is found free, or a lower one is
free_is : (ps : List Place) (i : ℕ) → i < four_places → (place_at ps i).«open» ≡ false → free_at ps < four_places
unfolding free_at
free_is ps i low shut = go (ltb i (free_at ps)) refl
  where
    go : (u : Bool) → ltb i (free_at ps) ≡ u → free_at ps < four_places
    go true e = absurd (false≢true (sym (first_least 0 four_places (λ i. not (place_at ps i).«open») i (omega arith) (ltb-true i (free_at ps) e)) ∙ ap not shut))
    go false e = omega (arith, low, ltb-false i (free_at ps) e)

-- a number that no open place has is not found
none_found : (ps : List Place) (n : ℕ) → Unopened ps n → four_places ≤ open_at ps n
none_found ps n h = go (ltb (open_at ps n) four_places) refl
  where
    go : (u : Bool) → ltb (open_at ps n) four_places ≡ u → four_places ≤ open_at ps n
    go true e = let l = ltb-true (open_at ps n) four_places e in let (o, q) = open_found ps n l in absurd (h (open_at ps n) l o q)
    go false e = ltb-false (open_at ps n) four_places e

-- ---- what has to be taken in

module _ (ps : List Place) (s m : List ℕ) (r : Packet) (c : List ℕ) (tests : first_tests ps s ≡ 0) (reads : read_record packets record_of m ≡ accepted (r, c)) where
  -- it is in its place, if that is open
  found : (i : ℕ) → Agrees ps i r → received (front ps) s r c ≡ joins s i (place_at ps i) r c
  unfolding received
  found i a =
      let is = front_open ps r.number ∙ open_is ps r.number i (tests_passed ps s tests).1 a.low a.is_open a.number in
      rw (is, lt-ltb i four_places a.low, front_at ps i a.low) refl

  becomes : {o : Accepting} → Takes ps s r c o → received (front ps) s r c ≡ o
  unfolding received joins
  becomes (lacking i a z) =
      found i a
      ∙ rw (eq-eqb r.language (place_at ps i).language (sym a.language), eq-eqb r.total (place_at ps i).total (sym a.total), eq-eqb (held (place_at ps i) r.own) 0 z) refl
  becomes (holding_it i a n e) =
      found i a
      ∙ rw (eq-eqb r.language (place_at ps i).language (sym a.language), eq-eqb r.total (place_at ps i).total (sym a.total), ne_eqb (held (place_at ps i) r.own) 0 n, e, same_alike c) refl
  becomes (new i h l e) = rw (front_open ps r.number, front_free ps, le-ltb (open_at ps r.number) four_places (none_found ps r.number h), lt-ltb (free_at ps) four_places (free_is ps i l e)) refl

  pub taking : {o : Accepting} → Takes ps s r c o → accepting ps s m ≡ o
  unfolding accepting
  taking x = rw (reads, tests) (becomes x)

  module _ {o : Accepting} (x : Takes ps s r c o) where
    -- Over a lent row: the reply is no refusal, and row and store are what becomes of the packet.
    pub takes_in : (a : Reply) (qs : List Place) (t : List ℕ) → Accepts ps s m a qs t → (refusal_of a ≡ bare 0) × (a ≡ o.reply) × (qs ≡ applied ps o.change) × (t ≡ o.store)
    takes_in a qs t (e, f, g) =
        let is = taking x in
        let reply = e ∙ ap (λ (o : Accepting). o.reply) is in
        (ap refusal_of reply ∙ takes_zero x, reply, f ∙ ap (λ (o : Accepting). applied ps o.change) is, g ∙ ap (λ (o : Accepting). o.store) is)

    -- By value: the same of the turn.
    pub takes_turn : (q : Turn) (t : List ℕ) → AcceptTurn ps s m q t → (refusal_of q.reply ≡ bare 0) × (q ≡ turn_of ps o.reply o.change) × (t ≡ o.store)
    takes_turn q t (e, _, g) =
        let is = taking x in
        let turn = e ∙ ap (λ (o : Accepting). turn_of ps o.reply o.change) is in
        (ap refusal_of (turned (λ (q : Turn). q) ps o.reply o.change q turn refl).0 ∙ takes_zero x, turn, g ∙ ap (λ (o : Accepting). o.store) is)
