-- What the desk's calls promise of the places ps, the store s and what else they are lent: the reply, and what is left of each. Assumes nothing.
use Rattle.std.specs.Prelude.{◌≡◌, List, [], ◌∷◌, ℕ, ◌<◌}
use Rattle.places.specs.Desk.{Accepting, Asking, applied, turn_of, accepting, asking, dropping}
use Rattle.places.specs.Places.{four_places}
use Rattle.places.specs.declared.Place.{Place}
use Rattle.places.specs.Replies.{Reply}
use Rattle.places.specs.Replies.{Turn}

-- ---- over a lent row of places: the reply a, the row qs left

-- the packet m, and the store t left
abbrev pub Accepts : List Place → List ℕ → List ℕ → Reply → List Place → List ℕ → Type 0
Accepts ps s m a qs t = let o = accepting ps s m in (a ≡ o.reply) × (qs ≡ applied ps o.change) × (t ≡ o.store)

-- message number n, the buffer b and the row w; c and v left of them
abbrev pub Asks : List Place → List ℕ → ℕ → List ℕ → List ℕ → Reply → List Place → List ℕ → List ℕ → Type 0
Asks ps s n b w a qs c v = let o = asking ps s n b w in (a ≡ o.reply) × (qs ≡ applied ps o.change) × (c ≡ o.notice) × (v ≡ o.missing)

abbrev pub Drops : List Place → List ℕ → ℕ → Reply → List Place → Type 0
Drops ps s n a qs = let o = dropping ps s n in (a ≡ o.reply) × (qs ≡ applied ps o.change)

-- ---- the same by value, where ps are the four places: the turn r

-- an acceptance o, where the first place is p
abbrev pub Gives : Place → Accepting → Turn → List ℕ → Type 0
Gives p o r t = (r ≡ turn_of (p ∷ []) o.reply o.change) × (r.at < four_places) × (t ≡ o.store)

abbrev pub AcceptTurn : List Place → List ℕ → List ℕ → Turn → List ℕ → Type 0
AcceptTurn ps s m r t = let o = accepting ps s m in (r ≡ turn_of ps o.reply o.change) × (r.at < four_places) × (t ≡ o.store)

-- what asking gives, o, where the first place is p
abbrev pub Hands : Place → Asking → Turn → List ℕ → List ℕ → Type 0
Hands p o r c v = (r ≡ turn_of (p ∷ []) o.reply o.change) × (r.at < four_places) × (c ≡ o.notice) × (v ≡ o.missing)

abbrev pub AskTurn : List Place → List ℕ → ℕ → List ℕ → List ℕ → Turn → List ℕ → List ℕ → Type 0
AskTurn ps s n b w r c v = let o = asking ps s n b w in (r ≡ turn_of ps o.reply o.change) × (r.at < four_places) × (c ≡ o.notice) × (v ≡ o.missing)

abbrev pub DropTurn : List Place → List ℕ → ℕ → Turn → Type 0
DropTurn ps s n r = let o = dropping ps s n in (r ≡ turn_of ps o.reply o.change) × (r.at < four_places)
