-- Demand 1 for the desk, from the promises of its calls by value and over a lent row of places: a number other than 0 and 9 leaves places, store, buffer and row as they were, 9 leaves all but the row, and 0 is never a refusal. A bit that is told is the packet's own. Assumes nothing.
use Rattle.std.specs.Prelude.{◌≡◌, List, ◌++◌, ℕ, ◌≤◌, ◌<◌, length, drop, set}
use Rattle.std.proofs.Common.{sym, ap, ◌∙◌}
use Rattle.format.specs.Fmt.{accepted}
use Rattle.format.specs.Message.{told}
use Rattle.format.specs.Promises.{read_record}
use Rattle.packet.specs.Packet.{packets, record_of}
use Rattle.packet.specs.declared.reading.Packet.{Packet}
use Rattle.places.specs.Places.{freed, four_places, front}
use Rattle.places.specs.Desk.{refusal_of, applied, first_tests, Accepting, accepting, Asking, asking, Dropping}
use Rattle.places.specs.Promises.{Accepts, Asks, Drops, AcceptTurn, AskTurn, DropTurn}
use Rattle.places.specs.declared.Place.{Place}
use Rattle.places.specs.Replies.{Reply}
use Rattle.places.specs.Replies.{Done, Joined}
use Rattle.places.specs.Replies.{Turn}
use Rattle.places.specs.Laws.Row.{accepts_row, asks_row, drops_row}
use Rattle.places.specs.Laws.Taken.{Takes}
use Rattle.places.specs.Laws.Ends.{accepting_so, asking_so, dropping_so, its, notice, without, whole, accepting_away, accepting_in, accepting_bit, asking_away, asking_lists, asking_hands, asking_bit, dropping_away, dropping_frees, dropping_bit}

-- ---- over a lent row of places

module _ (ps : List Place) (s m : List ℕ) (a : Reply) (qs : List Place) (t : List ℕ) (e : Accepts ps s m a qs t) where
  pub refused_accept : ((refusal_of a).code ≡ 0 → ⊥) → (qs ≡ ps) × (t ≡ s)
  refused_accept h =
      let is = accepting_away (accepting_so ps s m) (λ z. h (ap (λ a. (refusal_of a).code) e.0 ∙ z)) in
      (e.1 ∙ ap (λ (o : Accepting). applied ps o.change) is, e.2 ∙ ap (λ (o : Accepting). o.store) is)

  -- 0: the packet is good, the first tests pass, and it is taken in as it should be.
  pub zero_accept : (refusal_of a).code ≡ 0 → (x : Packet × List ℕ) × (read_record packets record_of m ≡ accepted x) × (first_tests ps s ≡ 0) × Takes ps s x.0 x.1 (accepting ps s m)
  zero_accept z = accepting_in (accepting_so ps s m) (ap (λ a. (refusal_of a).code) (sym e.0) ∙ z)

  -- The bit is the one that reading the packet tells: 0 where the packet is good, and where its refusal tells none.
  pub bit_accept : (refusal_of a).bit ≡ (told (read_record packets record_of m)).bit
  bit_accept = ap (λ a. (refusal_of a).bit) e.0 ∙ accepting_bit (accepting_so ps s m)

module _ (ps : List Place) (s : List ℕ) (n : ℕ) (b w : List ℕ) (a : Reply) (qs : List Place) (c v : List ℕ) (e : Asks ps s n b w a qs c v) where
  number_is : (refusal_of (asking ps s n b w).reply).code ≡ (refusal_of a).code
  number_is = ap (λ a. (refusal_of a).code) (sym e.0)

  pub refused_ask : ((refusal_of a).code ≡ 0 → ⊥) → ((refusal_of a).code ≡ 9 → ⊥) → (qs ≡ ps) × (c ≡ b) × (v ≡ w)
  refused_ask h k =
      let is = asking_away (asking_so ps s n b w) (λ z. h (sym number_is ∙ z)) (λ z. k (sym number_is ∙ z)) in
      (e.1 ∙ ap (λ (o : Asking). applied ps o.change) is, e.2 ∙ ap (λ (o : Asking). o.notice) is, e.3 ∙ ap (λ (o : Asking). o.missing) is)

  -- 9: the missing numbers stand in front of the row, and nothing else changes.
  pub nine_ask : (refusal_of a).code ≡ 9 → (qs ≡ ps) × (c ≡ b) × (v ≡ without ps n ++ drop (length (without ps n)) w)
  nine_ask z =
      let is = asking_lists (asking_so ps s n b w) (number_is ∙ z) in
      (e.1 ∙ ap (λ (o : Asking). applied ps o.change) is, e.2 ∙ ap (λ (o : Asking). o.notice) is, e.3 ∙ ap (λ (o : Asking). o.missing) is)

  -- 0: the notice is open and lacks nothing; its bytes stand in front of the buffer, and its place is free.
  pub zero_ask : (refusal_of a).code ≡ 0
      → (its ps n < four_places) × (length (without ps n) ≡ 0) × (a ≡ Joined (length (whole ps n s)) (notice ps n).language) × (qs ≡ set ps (its ps n) (freed (notice ps n))) × (c ≡ whole ps n s ++ drop (length (whole ps n s)) b) × (v ≡ w)
  zero_ask z =
      let (l, none, room, is) = asking_hands (asking_so ps s n b w) (number_is ∙ z) in
      (l, none, e.0 ∙ ap (λ (o : Asking). o.reply) is, e.1 ∙ ap (λ (o : Asking). applied ps o.change) is, e.2 ∙ ap (λ (o : Asking). o.notice) is, e.3 ∙ ap (λ (o : Asking). o.missing) is)

  -- Asking tells no bit.
  pub bit_ask : (refusal_of a).bit ≡ 0
  bit_ask = ap (λ a. (refusal_of a).bit) e.0 ∙ asking_bit (asking_so ps s n b w)

module _ (ps : List Place) (s : List ℕ) (n : ℕ) (a : Reply) (qs : List Place) (e : Drops ps s n a qs) where
  pub refused_drop : ((refusal_of a).code ≡ 0 → ⊥) → qs ≡ ps
  refused_drop h = e.1 ∙ ap (λ (o : Dropping). applied ps o.change) (dropping_away (dropping_so ps s n) (λ z. h (ap (λ a. (refusal_of a).code) e.0 ∙ z)))

  -- 0: its notice was open, and its place is free.
  pub zero_drop : (refusal_of a).code ≡ 0 → (its ps n < four_places) × (a ≡ Done) × (qs ≡ set ps (its ps n) (freed (notice ps n)))
  zero_drop z =
      let (l, is) = dropping_frees (dropping_so ps s n) (ap (λ a. (refusal_of a).code) (sym e.0) ∙ z) in
      (l, e.0 ∙ ap (λ (o : Dropping). o.reply) is, e.1 ∙ ap (λ (o : Dropping). applied ps o.change) is)

  -- Nor does dropping.
  pub bit_drop : (refusal_of a).bit ≡ 0
  bit_drop = ap (λ a. (refusal_of a).bit) e.0 ∙ dropping_bit (dropping_so ps s n)

-- ---- by value, where ps has at least four places: the turn's place, stored, is what the call leaves of the row

module _ (ps : List Place) (wide : four_places ≤ length ps) (s : List ℕ) where
  module _ (m : List ℕ) (r : Turn) (t : List ℕ) (e : AcceptTurn (front ps) s m r t) where
    pub refused_accept_turn : ((refusal_of r.reply).code ≡ 0 → ⊥) → (set ps r.at r.place ≡ ps) × (t ≡ s)
    refused_accept_turn = refused_accept ps s m r.reply (set ps r.at r.place) t (accepts_row ps s m r t wide e)

    pub zero_accept_turn : (refusal_of r.reply).code ≡ 0 → (x : Packet × List ℕ) × (read_record packets record_of m ≡ accepted x) × (first_tests ps s ≡ 0) × Takes ps s x.0 x.1 (accepting ps s m)
    zero_accept_turn = zero_accept ps s m r.reply (set ps r.at r.place) t (accepts_row ps s m r t wide e)

  module _ (n : ℕ) (b w : List ℕ) (r : Turn) (c v : List ℕ) (e : AskTurn (front ps) s n b w r c v) where
    pub refused_ask_turn : ((refusal_of r.reply).code ≡ 0 → ⊥) → ((refusal_of r.reply).code ≡ 9 → ⊥) → (set ps r.at r.place ≡ ps) × (c ≡ b) × (v ≡ w)
    refused_ask_turn = refused_ask ps s n b w r.reply (set ps r.at r.place) c v (asks_row ps s n b w r c v wide e)

    pub nine_ask_turn : (refusal_of r.reply).code ≡ 9 → (set ps r.at r.place ≡ ps) × (c ≡ b) × (v ≡ without ps n ++ drop (length (without ps n)) w)
    nine_ask_turn = nine_ask ps s n b w r.reply (set ps r.at r.place) c v (asks_row ps s n b w r c v wide e)

    pub zero_ask_turn : (refusal_of r.reply).code ≡ 0
        → (its ps n < four_places) × (length (without ps n) ≡ 0) × (r.reply ≡ Joined (length (whole ps n s)) (notice ps n).language) × (set ps r.at r.place ≡ set ps (its ps n) (freed (notice ps n)))
        × (c ≡ whole ps n s ++ drop (length (whole ps n s)) b) × (v ≡ w)
    zero_ask_turn = zero_ask ps s n b w r.reply (set ps r.at r.place) c v (asks_row ps s n b w r c v wide e)

  module _ (n : ℕ) (r : Turn) (e : DropTurn (front ps) s n r) where
    pub refused_drop_turn : ((refusal_of r.reply).code ≡ 0 → ⊥) → set ps r.at r.place ≡ ps
    refused_drop_turn = refused_drop ps s n r.reply (set ps r.at r.place) (drops_row ps s n r wide e)

    pub zero_drop_turn : (refusal_of r.reply).code ≡ 0 → (its ps n < four_places) × (r.reply ≡ Done) × (set ps r.at r.place ≡ set ps (its ps n) (freed (notice ps n)))
    zero_drop_turn = zero_drop ps s n r.reply (set ps r.at r.place) (drops_row ps s n r wide e)
