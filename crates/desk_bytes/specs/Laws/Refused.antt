-- Demand 1 for the desk over lent bytes, from the promises of its calls: a number other than 0 and 9 leaves bytes, store, buffer, row and lent numbers as they were, 9 leaves all but the row and the count, and 0 is never a refusal. A bit that is told is the packet's own. It is what the definitions come to (places/specs/Laws/Ends). Assumes nothing.
use Rattle.std.specs.Prelude.{◌≡◌, List, ◌++◌, ℕ, ◌<◌, length, drop}
use Rattle.std.proofs.Common.{sym, ap, ◌∙◌}
use Rattle.format.specs.Fmt.{accepted}
use Rattle.format.specs.Message.{told}
use Rattle.format.specs.Promises.{read_record}
use Rattle.format.specs.Refusals.{Verdict}
use Rattle.packet.specs.Packet.{packets, record_of}
use Rattle.packet.specs.declared.reading.Packet.{Packet}
use Rattle.places.specs.Desk.{turns, first_tests, Accepting, accepting, Asking, Dropping}
use Rattle.places.specs.Places.{freed, four_places}
use Rattle.places.specs.Laws.Taken.{Takes}
use Rattle.places.specs.Laws.Ends.{its, notice, without, whole, accepting_so, asking_so, dropping_so, accepting_away, accepting_in, accepting_bit, asking_away, asking_lists, asking_hands, asking_bit, dropping_away, dropping_frees, dropping_bit}
use Rattle.desk_bytes.specs.Bytes.{row_in, changed_bytes}
use Rattle.desk_bytes.specs.Promises.{again_of, count_of, language_of, AcceptsIn, AsksIn, DropsIn}

number : {r q : Verdict} → r ≡ q → r.code ≡ q.code
number = ap (λ (r : Verdict). r.code)

module _ (bs s m : List ℕ) (again : ℕ) (code : Verdict) (cs t : List ℕ) (again' : ℕ) (e : AcceptsIn bs s m again code cs t again') where
  pub refused_accept : (code.code ≡ 0 → ⊥) → (cs ≡ bs) × (t ≡ s) × (again' ≡ again)
  refused_accept h =
      let is = accepting_away (accepting_so (row_in bs) s m) (λ z. h (number e.0 ∙ z)) in (
        e.1 ∙ ap (λ (o : Accepting). changed_bytes bs o.change) is,
        e.2 ∙ ap (λ (o : Accepting). o.store) is,
        e.3 ∙ ap (λ (o : Accepting). again_of o.reply again) is,
      )

  -- 0: the packet is good, the first tests pass, and it is taken in as it should be.
  pub zero_accept : code.code ≡ 0 → (x : Packet × List ℕ) × (read_record packets record_of m ≡ accepted x) × (first_tests (row_in bs) s ≡ 0) × Takes (row_in bs) s x.0 x.1 (accepting (row_in bs) s m)
  zero_accept z = accepting_in (accepting_so (row_in bs) s m) (sym (number e.0) ∙ z)

  -- The bit is the one that reading the packet tells.
  pub bit_accept : code.bit ≡ (told (read_record packets record_of m)).bit
  bit_accept = ap (λ (r : Verdict). r.bit) e.0 ∙ accepting_bit (accepting_so (row_in bs) s m)

module _ (bs s : List ℕ) (n : ℕ) (b w : List ℕ) (count language : ℕ) (code : Verdict) (cs c v : List ℕ) (count' language' : ℕ) (e : AsksIn bs s n b w count language code cs c v count' language') where
  pub refused_ask : (code.code ≡ 0 → ⊥) → (code.code ≡ 9 → ⊥) → (cs ≡ bs) × (c ≡ b) × (v ≡ w) × (count' ≡ count) × (language' ≡ language)
  refused_ask h k =
      let is = asking_away (asking_so (row_in bs) s n b w) (λ z. h (number e.0 ∙ z)) (λ z. k (number e.0 ∙ z)) in (
        e.1 ∙ ap (λ (o : Asking). changed_bytes bs o.change) is,
        e.2 ∙ ap (λ (o : Asking). o.notice) is,
        e.3 ∙ ap (λ (o : Asking). o.missing) is,
        e.4 ∙ ap (λ (o : Asking). count_of o.reply count) is,
        e.5 ∙ ap (λ (o : Asking). language_of o.reply language) is,
      )

  -- 9: the missing numbers stand in front of the row, the count says how many, and nothing else changes.
  pub nine_ask : code.code ≡ 9 → let ns = without (row_in bs) n in (cs ≡ bs) × (c ≡ b) × (v ≡ ns ++ drop (length ns) w) × (count' ≡ length ns) × (language' ≡ language)
  nine_ask z =
      let is = asking_lists (asking_so (row_in bs) s n b w) (sym (number e.0) ∙ z) in (
        e.1 ∙ ap (λ (o : Asking). changed_bytes bs o.change) is,
        e.2 ∙ ap (λ (o : Asking). o.notice) is,
        e.3 ∙ ap (λ (o : Asking). o.missing) is,
        e.4 ∙ ap (λ (o : Asking). count_of o.reply count) is,
        e.5 ∙ ap (λ (o : Asking). language_of o.reply language) is,
      )

  -- 0: the notice is open and lacks nothing; its bytes stand in front of the buffer, and its place is free.
  pub zero_ask : code.code ≡ 0 → let ps = row_in bs in let d = whole ps n s in
      (its ps n < four_places) × (length (without ps n) ≡ 0) × (cs ≡ changed_bytes bs (turns (its ps n) (freed (notice ps n)))) × (c ≡ d ++ drop (length d) b) × (v ≡ w) × (count' ≡ length d) × (language' ≡ (notice ps n).language)
  zero_ask z =
      let (l, none, room, is) = asking_hands (asking_so (row_in bs) s n b w) (sym (number e.0) ∙ z) in (
        l,
        none,
        e.1 ∙ ap (λ (o : Asking). changed_bytes bs o.change) is,
        e.2 ∙ ap (λ (o : Asking). o.notice) is,
        e.3 ∙ ap (λ (o : Asking). o.missing) is,
        e.4 ∙ ap (λ (o : Asking). count_of o.reply count) is,
        e.5 ∙ ap (λ (o : Asking). language_of o.reply language) is,
      )

  -- Asking tells no bit.
  pub bit_ask : code.bit ≡ 0
  bit_ask = ap (λ (r : Verdict). r.bit) e.0 ∙ asking_bit (asking_so (row_in bs) s n b w)

module _ (bs s : List ℕ) (n : ℕ) (code : Verdict) (cs : List ℕ) (e : DropsIn bs s n code cs) where
  pub refused_drop : (code.code ≡ 0 → ⊥) → cs ≡ bs
  refused_drop h = e.1 ∙ ap (λ (o : Dropping). changed_bytes bs o.change) (dropping_away (dropping_so (row_in bs) s n) (λ z. h (number e.0 ∙ z)))

  -- 0: its notice was open, and its place is free.
  pub zero_drop : code.code ≡ 0 → let ps = row_in bs in (its ps n < four_places) × (cs ≡ changed_bytes bs (turns (its ps n) (freed (notice ps n))))
  zero_drop z =
      let (l, is) = dropping_frees (dropping_so (row_in bs) s n) (sym (number e.0) ∙ z) in
      (l, e.1 ∙ ap (λ (o : Dropping). changed_bytes bs o.change) is)

  -- Nor does dropping.
  pub bit_drop : code.bit ≡ 0
  bit_drop = ap (λ (r : Verdict). r.bit) e.0 ∙ dropping_bit (dropping_so (row_in bs) s n)
