-- A row of places: with at least four, a call's promise over the row is its promise by value of the first four, since nothing looks past these and a turn that is no change has the first place again; with fewer, every call refuses by 6 and leaves all as it was. Assumes nothing.
use Rattle.std.specs.Prelude.{◌≡◌, refl, List, ℕ, ◌<◌, length}
use Rattle.places.specs.Places.{four_places}
use Rattle.places.specs.Desk.{unplaced}
use Rattle.places.specs.Promises.{Accepts}
use Rattle.places.specs.declared.Place.{Place}
use Rattle.places.specs.Replies.{Reply}
use Rattle.places.specs.Replies.{Refused}
use Rattle.places.specs.Laws.Row.{accepting_short}

-- ---- fewer

pub accepts_short : (ps : List Place) (s m : List ℕ) (a : Reply) → length ps < four_places → a ≡ Refused (unplaced m) → Accepts ps s m a ps s
accepts_short ps s m a h e = rw (accepting_short ps s m h) (e, refl, refl)
