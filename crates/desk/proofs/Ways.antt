-- What a refusal that is handed on leaves; a packet's ways to its notice, where the four places are ps; what is answered where the row of places is too short.
use mathlib.Core.Path.{◌≡◌, refl, sym, ap, ◌∙◌}
use mathlib.Core.Bool.{cond}
use mathlib.Core.List.{List, [], ◌∷◌}
use Prim.Native.Nat.{ℕ, ◌≤◌, ◌<◌}
use lib.Dec.{eqb}
use lib.ListN.{length, set}
use borrow.Author.Tests.{eq-eqb, ne_eqb, lt-ltb, le-ltb}
use Rattle.format.specs.Fmt.{Out, accepted, refused}
use Rattle.format.specs.Promises.{answered, read_record, out_of, verdict_of}
use Rattle.format.specs.Refusals.{Verdict, number, bare, seen_refusal}
use Rattle.format.specs.declared.Reason.{Reason}
use Rattle.format.specs.declared.Refusal.{Refusal}
use Rattle.packet.specs.Packet.{packets, record_of, answer_of}
use Rattle.packet.specs.Promises.{Reads}
use Rattle.packet.specs.declared.reading.Packet.{Packet}
use Rattle.places.specs.Places.{four_places, blank, place_at, front, open_at, free_at}
use Rattle.places.specs.Desk.{Accepting, stays, turn_of, turned_away, joins, opens, first_tests, received, accepting, unplaced}
use Rattle.places.specs.Promises.{Gives, AcceptTurn}
use Rattle.places.specs.Laws.Four.{front_is, turn_first}
use Rattle.places.specs.declared.Place.{Place}
use Rattle.places.specs.declared.Reply.{Reply}
use Rattle.places.specs.declared.Turn.{Turn as Handed}
use Rattle.places.specs.Replies.{Refused, Turn, replied, turned}
use Rattle.std.specs.Prelude.{Result, Ok, Err, IsErrAnd}
use Rattle.std.proofs.lemmas.List.{set-get_or}

-- ---- a refusal that a call hands on: the first place is as it was

pub refused_turn : (p : Place) (x : Result Handed Refusal) (v : Verdict) → IsErrAnd x (λ f. seen_refusal f ≡ v) → turned p x ≡ turn_of (p ∷ []) (Refused v) stays
refused_turn p (Ok t) v h = absurd h
refused_turn p (Err f) v h = ap (λ v. turn_of (p ∷ []) (Refused v) stays) h

pub handed_on : (x : Result Handed Refusal) (f : Refusal) → IsErrAnd x (λ g. g ≡ f) → IsErrAnd x (λ g. seen_refusal g ≡ seen_refusal f)
handed_on (Ok t) f h = absurd h
handed_on (Err g) f h = ap seen_refusal h

pub refused_reply : (x : Result Reply Refusal) (f : Refusal) → IsErrAnd x (λ g. g ≡ f) → Refused (seen_refusal f) ≡ replied x
refused_reply (Ok a) f h = absurd h
refused_reply (Err g) f h = ap (λ f. Refused (seen_refusal f)) (sym h)

-- the same where the first tests refuse
pub tests_turn : (p : Place) (x : Result Handed Refusal) (r : Reason) (n : ℕ) → IsErrAnd x (λ f. seen_refusal f ≡ bare (number r)) → number r ≡ n → turned p x ≡ turn_of (p ∷ []) (Refused (bare n)) stays
tests_turn p x r n h e = refused_turn p x (bare (number r)) h ∙ ap (λ n. turn_of (p ∷ []) (Refused (bare n)) stays) e

-- storing the first place again changes nothing
pub first_stays : (ps : List Place) → set ps 0 (place_at ps 0) ≡ ps
first_stays ps = set-get_or ps 0 blank

-- ---- a packet comes in

-- a turn of the first place alone is one of the four
pub of_four : (ps : List Place) (s m : List ℕ) (o : Accepting) (r : Turn) (t : List ℕ) → accepting ps s m ≡ o → Gives (place_at ps 0) o r t → AcceptTurn ps s m r t
of_four ps s m o r t e (is, low, same) = (
  is ∙ turn_first ps o.reply o.change ∙ ap (λ (x : Accepting). turn_of ps x.reply x.change) (sym e),
  low,
  same ∙ ap (λ (x : Accepting). x.store) (sym e),
)

module _ (ps : List Place) (s m : List ℕ) where
  pub refused_packet : (f : Refusal) → Reads m (Err f) → accepting ps s m ≡ turned_away s (seen_refusal f)
  unfolding accepting
  refused_packet f e = go (read_record packets record_of m) e
    where
      go : (o : Out (Packet × List ℕ)) → out_of {R = Packet} (Err f) ≡ answer_of o → answered (λ y. let n = first_tests ps s in cond (eqb n 0) (received (front ps) s y.0 y.1) (turned_away s (bare n))) (turned_away s) o ≡ turned_away s (seen_refusal f)
      go (accepted q) e = absurd cc
      go (refused n p) e = ap (λ o. turned_away s (verdict_of o)) (sym e)

  module _ (r : Packet) (k : List ℕ) (reads : read_record packets record_of m ≡ accepted (r, k)) where
    pub refused_tests : (first_tests ps s ≡ 0 → ⊥) → accepting ps s m ≡ turned_away s (bare (first_tests ps s))
    unfolding accepting
    refused_tests n = rw (reads, ne_eqb (first_tests ps s) 0 n) refl

    taken_in : length ps ≡ four_places → first_tests ps s ≡ 0 → accepting ps s m ≡ received ps s r k
    unfolding accepting
    taken_in four z = rw (reads, eq-eqb (first_tests ps s) 0 z) (ap (λ qs. received qs s r k) (front_is ps four))

    pub joins_open : length ps ≡ four_places → first_tests ps s ≡ 0 → open_at ps r.number < four_places → accepting ps s m ≡ joins s (open_at ps r.number) (place_at ps (open_at ps r.number)) r k
    unfolding received
    joins_open four z l = taken_in four z ∙ rw (lt-ltb (open_at ps r.number) four_places l) refl

    pub opens_free : length ps ≡ four_places → first_tests ps s ≡ 0 → four_places ≤ open_at ps r.number → accepting ps s m ≡ opens s (free_at ps) r k
    unfolding received
    opens_free four z l = taken_in four z ∙ rw (le-ltb (open_at ps r.number) four_places l) refl

-- where the row of places is too short

pub too_few_good : (m : List ℕ) (r : Packet) → Reads m (Ok r) → bare 6 ≡ unplaced m
too_few_good m r e = go (read_record packets record_of m) e
  where
    go : (o : Out (Packet × List ℕ)) → out_of (Ok r) ≡ answer_of o → bare 6 ≡ answered (λ x. bare 6) (λ refusal. refusal) o
    go (accepted q) e = refl
    go (refused n p) e = absurd cc

pub too_few_refused : (m : List ℕ) (f : Refusal) → Reads m (Err f) → seen_refusal f ≡ unplaced m
too_few_refused m f e = go (read_record packets record_of m) e
  where
    go : (o : Out (Packet × List ℕ)) → out_of {R = Packet} (Err f) ≡ answer_of o → seen_refusal f ≡ answered (λ x. bare 6) (λ refusal. refusal) o
    go (accepted q) e = absurd cc
    go (refused n p) e = ap verdict_of e
