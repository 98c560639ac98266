-- The ways through asking at the place that was found: what each test makes of the answer, and that what is not lent to a part of it stays.
use Prim.Native.Nat.{ℕ, ◌≤◌, ◌<◌}
use mathlib.Core.Bool.{Bool, true, false, cond}
use mathlib.Core.List.{List, [], ◌++◌}
use mathlib.Core.Path.{◌≡◌, refl, sym, ◌∙◌}
use native.Mathlib.Omega.{arith}
use lib.Dec.{leb}
use lib.ListN.{length, drop}
use borrow.Author.Tests.{le-leb, lt-leb}
use Rattle.format.specs.Refusals.{bare}
use Rattle.places.specs.Desk.{store_bytes, Asking, not_answered, lists, hands_out, joined_below, stays, turns}
use Rattle.places.specs.Places.{freed, four_places}
use Rattle.places.specs.Promises.{Hands}
use Rattle.places.specs.declared.Place.{Place}
use Rattle.places.specs.Replies.{Joined, Missing}
use Rattle.places.specs.Replies.{Turn}
use Rattle.places.specs.Laws.Good.{Sized}
use Rattle.places.specs.Laws.Joined.{held_below, joined_length}

pub answered : (q : Place) (o o₀ : Asking) (r : Turn) (c v : List ℕ) → o ≡ o₀ → Hands q o₀ r c v → Hands q o r c v
answered q o o₀ r c v e h = rw e h

-- numbers are missing: the row is too short for them, or they stand in it
module _ (ns w : List ℕ) (k : ℕ) (e : k ≡ length ns) where
  pub row_short : length w < k → lists ns [] w ≡ not_answered [] w (bare 6)
  row_short l = rw (lt-leb (length ns) (length w) (omega (arith, e, l))) refl

  pub listed : k ≤ length w → lists ns [] w ≡ record { reply = Missing k; change = stays; notice = []; missing = ns ++ drop (length ns) w }
  listed l = rw (le-leb (length ns) (length w) (omega (arith, e, l))) (rw e refl)

-- none is missing: the buffer is too short for the packets, or they stand in it
module _ (s : List ℕ) (i : ℕ) (p : Place) (b : List ℕ) (z : Sized p) (within : i < four_places) (deep : store_bytes ≤ length s) (k : ℕ) (e : k ≡ held_below p.total p) where
  abbrev bytes : List ℕ
  bytes = joined_below p.total s i p

  long : k ≡ length bytes
  long = e ∙ sym (joined_length z i s within deep p.total z.few)

  pub buffer_short : length b < k → hands_out bytes i p b [] ≡ not_answered b [] (bare 6)
  buffer_short l = rw (lt-leb (length bytes) (length b) (omega (arith, long, l))) refl

  pub handed : k ≤ length b → hands_out bytes i p b [] ≡ record { reply = Joined k p.language; change = turns i (freed p); notice = bytes ++ drop (length bytes) b; missing = [] }
  handed l = rw (le-leb (length bytes) (length b) (omega (arith, long, l))) (rw long refl)

-- the buffer stays where numbers are listed, and the row where a notice is handed out
module _ (q : Place) (r : Turn) where
  pub buffer_stays : (ns b w v : List ℕ) → Hands q (lists ns [] w) r [] v → Hands q (lists ns b w) r b v
  buffer_stays ns b w v = go (leb (length ns) (length w))
    where
      go : (t : Bool) → Hands q (cond t (record { reply = Missing (length ns); change = stays; notice = []; missing = ns ++ drop (length ns) w }) (not_answered [] w (bare 6))) r [] v
          → Hands q (cond t (record { reply = Missing (length ns); change = stays; notice = b; missing = ns ++ drop (length ns) w }) (not_answered b w (bare 6))) r b v
      go true h = (h.0, h.1, refl, h.3)
      go false h = (h.0, h.1, refl, h.3)

  pub row_stays : (c : List ℕ) (i : ℕ) (p : Place) (b w d : List ℕ) → Hands q (hands_out c i p b []) r d [] → Hands q (hands_out c i p b w) r d w
  row_stays c i p b w d = go (leb (length c) (length b))
    where
      go : (t : Bool) → Hands q (cond t (record { reply = Joined (length c) p.language; change = turns i (freed p); notice = c ++ drop (length c) b; missing = [] }) (not_answered b [] (bare 6))) r d []
          → Hands q (cond t (record { reply = Joined (length c) p.language; change = turns i (freed p); notice = c ++ drop (length c) b; missing = w }) (not_answered b w (bare 6))) r d w
      go true h = (h.0, h.1, h.2, refl)
      go false h = (h.0, h.1, h.2, refl)
