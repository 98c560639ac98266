-- A row of places: with at least four, a call's promise over the row is its promise by value of the first four, since nothing looks past these and a turn that is no change has the first place again; with fewer, every call refuses by 6 and leaves all as it was. Assumes nothing.
use Rattle.std.specs.Prelude.{◌≡◌, refl, Bool, cond, ◌&&◌, List, ℕ, ◌<◌, ◌≤◌, leb, length, set}
use Rattle.std.proofs.Common.{sym, ap, ◌∙◌, le-leb}
use Rattle.std.proofs.lemmas.List.{set-get_or}
use Rattle.std.proofs.lemmas.Bool.{lt-leb}
use Rattle.format.specs.Fmt.{Out, accepted, refused}
use Rattle.format.specs.Promises.{answered, read_record}
use Rattle.format.specs.Refusals.{bare}
use Rattle.packet.specs.Packet.{packets, record_of}
use Rattle.packet.specs.declared.reading.Packet.{Packet}
use Rattle.places.specs.Places.{every_below, all_apart, four_places, blank, front, good_places}
use Rattle.places.specs.Desk.{Change, stays, turns, applied, turn_of, store_bytes, first_tests, turned_away, accepting, unplaced, not_answered, asking, dropping}
use Rattle.places.specs.Promises.{Accepts, Asks, Drops, AcceptTurn, AskTurn, DropTurn}
use Rattle.places.specs.declared.Place.{Place}
use Rattle.places.specs.Replies.{Reply}
use Rattle.places.specs.Replies.{Refused}
use Rattle.places.specs.Replies.{Turn}

-- ---- four places or more

front_tests : (ps : List Place) (s : List ℕ) → four_places ≤ length ps → first_tests (front ps) s ≡ first_tests ps s
unfolding first_tests good_places all_apart every_below
front_tests ps s h = ap (λ (z : Bool). cond (z && leb store_bytes (length s)) (cond (good_places ps) 0 4) 6) (sym (le-leb four_places (length ps) h))

-- the row with the turn's place stored
abbrev with : List Place → Turn → List Place
with ps r = set ps r.at r.place

-- storing a turn's place is what its change does
stored : (ps : List Place) (a : Reply) (c : Change) → with ps (turn_of (front ps) a c) ≡ applied ps c
stored ps a stays = set-get_or ps 0 blank
stored ps a (turns i p) = refl

accepting_front : (ps : List Place) (s m : List ℕ) → four_places ≤ length ps → accepting (front ps) s m ≡ accepting ps s m
unfolding accepting
accepting_front ps s m h = rw (front_tests ps s h) refl

asking_front : (ps : List Place) (s : List ℕ) (n : ℕ) (b w : List ℕ) → four_places ≤ length ps → asking (front ps) s n b w ≡ asking ps s n b w
unfolding asking
asking_front ps s n b w h = rw (front_tests ps s h) refl

dropping_front : (ps : List Place) (s : List ℕ) (n : ℕ) → four_places ≤ length ps → dropping (front ps) s n ≡ dropping ps s n
unfolding dropping
dropping_front ps s n h = rw (front_tests ps s h) refl

-- what a turn makes of the reply, and of anything that is read from it
pub turned : {B : Type 0} (f : Turn → B) (ps : List Place) (a : Reply) (c : Change) (r : Turn) {b : B} → r ≡ turn_of ps a c → f (turn_of ps a c) ≡ b → (r.reply ≡ a) × (f r ≡ b)
turned f ps a c r e q = (ap (λ (t : Turn). t.reply) e ∙ replied c, ap f e ∙ q)
  where
    replied : (c : Change) → (turn_of ps a c).reply ≡ a
    replied stays = refl
    replied (turns i p) = refl

pub accepts_row : (ps : List Place) (s m : List ℕ) (r : Turn) (t : List ℕ) → four_places ≤ length ps → AcceptTurn (front ps) s m r t → Accepts ps s m r.reply (set ps r.at r.place) t
accepts_row ps s m r t h e = let o = accepting (front ps) s m in let (x, y) = turned (with ps) (front ps) o.reply o.change r e.0 (stored ps o.reply o.change) in rw (← accepting_front ps s m h) (x, y, e.2)

pub asks_row : (ps : List Place) (s : List ℕ) (n : ℕ) (b w : List ℕ) (r : Turn) (c v : List ℕ) → four_places ≤ length ps → AskTurn (front ps) s n b w r c v → Asks ps s n b w r.reply (set ps r.at r.place) c v
asks_row ps s n b w r c v h e = let o = asking (front ps) s n b w in let (x, y) = turned (with ps) (front ps) o.reply o.change r e.0 (stored ps o.reply o.change) in rw (← asking_front ps s n b w h) (x, y, e.2, e.3)

pub drops_row : (ps : List Place) (s : List ℕ) (n : ℕ) (r : Turn) → four_places ≤ length ps → DropTurn (front ps) s n r → Drops ps s n r.reply (set ps r.at r.place)
drops_row ps s n r h e = let o = dropping (front ps) s n in let (x, y) = turned (with ps) (front ps) o.reply o.change r e.0 (stored ps o.reply o.change) in rw (← dropping_front ps s n h) (x, y)

-- ---- fewer

short_tests : (ps : List Place) (s : List ℕ) → length ps < four_places → first_tests ps s ≡ 6
unfolding first_tests
short_tests ps s h = ap (λ (z : Bool). cond (z && leb store_bytes (length s)) (cond (good_places ps) 0 4) 6) (lt-leb four_places (length ps) h)

-- a packet's own refusal comes first
pub accepting_short : (ps : List Place) (s m : List ℕ) → length ps < four_places → accepting ps s m ≡ turned_away s (unplaced m)
unfolding accepting
accepting_short ps s m h = rw (short_tests ps s h) (away (read_record packets record_of m))
  where
    away : (o : Out (Packet × List ℕ)) → answered (λ x. turned_away s (bare 6)) (turned_away s) o ≡ turned_away s (answered (λ x. bare 6) (λ refusal. refusal) o)
    away (accepted x) = refl
    away (refused c p) = refl

pub asking_short : (ps : List Place) (s : List ℕ) (n : ℕ) (b w : List ℕ) → length ps < four_places → asking ps s n b w ≡ not_answered b w (bare 6)
unfolding asking
asking_short ps s n b w h = rw (short_tests ps s h) refl

pub dropping_short : (ps : List Place) (s : List ℕ) (n : ℕ) → length ps < four_places → dropping ps s n ≡ record { reply = Refused (bare 6); change = stays }
unfolding dropping
dropping_short ps s n h = rw (short_tests ps s h) refl

pub asks_short : (ps : List Place) (s : List ℕ) (n : ℕ) (b w : List ℕ) → length ps < four_places → Asks ps s n b w (Refused (bare 6)) ps b w
asks_short ps s n b w h = rw (asking_short ps s n b w h) (refl, refl, refl, refl)

pub drops_short : (ps : List Place) (s : List ℕ) (n : ℕ) → length ps < four_places → Drops ps s n (Refused (bare 6)) ps
drops_short ps s n h = rw (dropping_short ps s n h) (refl, refl)
