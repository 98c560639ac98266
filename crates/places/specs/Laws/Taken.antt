-- The desk takes in what it should: where the first tests pass, a packet that reading accepts is answered 0 if its notice is open, agrees with it and lacks it or holds the same bytes, and if its notice is not open and a place is free. Since the places are good, an open place of its number is the one that is found. Assumes nothing.
use Rattle.std.specs.Prelude.{◌≡◌, true, false, List, ℕ, ◌<◌, length}
use Rattle.std.proofs.Math.Path.{refl}
use Rattle.format.specs.Refusals.{bare}
use Rattle.packet.specs.declared.reading.Packet.{Packet}
use Rattle.places.specs.Places.{held, opened, holding, four_places, place_at, free_at}
use Rattle.places.specs.Desk.{in_cell_of, refusal_of, stays, Accepting, taken}
use Rattle.places.specs.declared.Place.{Place}
use Rattle.places.specs.Replies.{Again}
use Rattle.places.specs.Laws.Front.{Unopened}

-- ---- what has to be taken in

-- the packet r agrees with the open place i
pub record Agrees (ps : List Place) (i : ℕ) (r : Packet) : Type 0 where
  pub low : i < four_places
  pub is_open : (place_at ps i).«open» ≡ true
  pub number : (place_at ps i).number ≡ r.number
  pub language : (place_at ps i).language ≡ r.language
  pub total : (place_at ps i).total ≡ r.total

-- the packet r with content c, and what becomes of it
pub data Takes (ps : List Place) (s : List ℕ) (r : Packet) (c : List ℕ) : Accepting → Type 0 where
  -- its notice is open and lacks it
  lacking : (i : ℕ) → Agrees ps i r → held (place_at ps i) r.own ≡ 0 → Takes ps s r c (taken s i (holding (place_at ps i) r.own (length c)) r c)
  -- its notice is open and holds the same bytes
  holding_it : (i : ℕ) → Agrees ps i r → (held (place_at ps i) r.own ≡ 0 → ⊥) → in_cell_of s i (place_at ps i) r.own ≡ c → Takes ps s r c (record { reply = Again; change = stays; store = s })
  -- its notice is not open, and place i is free: it opens the lowest that is
  new : (i : ℕ) → Unopened ps r.number → i < four_places → (place_at ps i).«open» ≡ false → Takes ps s r c (taken s (free_at ps) (opened r (length c)) r c)

pub takes_zero : {ps : List Place} {s : List ℕ} {r : Packet} {c : List ℕ} {o : Accepting} → Takes ps s r c o → refusal_of o.reply ≡ bare 0
takes_zero (lacking i a z) = refl
takes_zero (holding_it i a n e) = refl
takes_zero (new i h l e) = refl
