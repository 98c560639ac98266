-- What a turn by value puts back, by its reply alone, is what the call promises of the bytes. Assumes nothing.
use Rattle.std.specs.Prelude.{◌≡◌, refl, cond, List, [], ◌∷◌, ℕ, zero, suc, ◌≤◌, ◌<◌, length, take, drop}
use Rattle.std.proofs.Common.{sym, ap, subst, arith, lit<, length-drop, length-take-le, le-leb}
use Rattle.std.proofs.lemmas.Bool.{lt-leb}
use Rattle.format.specs.Refusals.{bare}
use Rattle.packet.specs.Packet.{most_packets}
use Rattle.places.specs.Desk.{refusal_of, Change, stays, turn_of, laid, unplaced, accepting, asking, dropping}
use Rattle.places.specs.Places.{four_places, place_at, front}
use Rattle.places.specs.Laws.Row.{turned, accepting_short, asking_short, dropping_short}
use Rattle.places.specs.Promises.{AcceptTurn, AskTurn, DropTurn}
use Rattle.places.specs.declared.Place.{Place}
use Rattle.places.specs.Replies.{Reply}
use Rattle.places.specs.Replies.{Refused}
use Rattle.places.specs.Replies.{Turn}
use Rattle.desk_bytes.specs.Bytes.{place_bytes, begins, place_in, row_in, bytes_of, changed_bytes}
use Rattle.desk_bytes.specs.Laws.Fits.{moves, Fits, none, one, accepting_fits, asking_fits, dropping_fits}
use Rattle.desk_bytes.specs.Promises.{again_of, count_of, language_of, AcceptsIn, AsksIn, DropsIn}

-- ---- a turn

abbrev pub put_back : List ℕ → Turn → List ℕ
put_back bs r = cond (moves r.reply) (laid bs (begins r.at) (bytes_of r.place)) bs

put_back_lem : (bs : List ℕ) (ps : List Place) (a : Reply) {c : Change} → Fits a c → put_back bs (turn_of ps a c) ≡ changed_bytes bs c
put_back_lem bs ps a (none e) = ap (λ t. cond t (laid bs (begins 0) (bytes_of (turn_of ps a stays).place)) bs) e
put_back_lem bs ps a (one e i low p each) = ap (λ t. cond t (laid bs (begins i) (bytes_of p)) bs) e

-- ---- the calls, where there are bytes enough

abbrev pub four_in : List ℕ → List Place
four_in bs = place_in bs 0 ∷ place_in bs 1 ∷ place_in bs 2 ∷ place_in bs 3 ∷ []

sizes_in : (bs : List ℕ) → begins four_places ≤ length bs → (i : ℕ) → i < four_places → length (place_in bs i).sizes ≡ most_packets
sizes_in bs long i low =
    let part = take place_bytes (drop (begins i) bs) in
    let size : length part ≡ place_bytes = length-take-le place_bytes (drop (begins i) bs) (omega (arith, length-drop (begins i) bs, low, long)) in
    omega (arith, length-drop 4 part, size)

module _ (bs : List ℕ) (long : begins four_places ≤ length bs) where
  sized_four : (i : ℕ) → i < four_places → length (place_at (four_in bs) i).sizes ≡ most_packets
  sized_four zero low = sizes_in bs long 0 low
  sized_four (suc zero) low = sizes_in bs long 1 low
  sized_four (suc (suc zero)) low = sizes_in bs long 2 low
  sized_four (suc (suc (suc zero))) low = sizes_in bs long 3 low
  sized_four (suc (suc (suc (suc i)))) low = absurd (omega (arith, low))

  pub row_long : four_in bs ≡ row_in bs
  row_long = ap (λ t. cond t (four_in bs) []) (sym (le-leb (begins four_places) (length bs) long))

  pub sized : (i : ℕ) → i < four_places → length (place_at (front (row_in bs)) i).sizes ≡ most_packets
  sized = subst (λ ps. (i : ℕ) → i < four_places → length (place_at (front ps) i).sizes ≡ most_packets) row_long sized_four

  pub accepts_in : (s m : List ℕ) (again : ℕ) (r : Turn) (t : List ℕ) → AcceptTurn (row_in bs) s m r t → AcceptsIn bs s m again (refusal_of r.reply) (put_back bs r) t (again_of r.reply again)
  accepts_in s m again r t (is, low, e) =
      let o = accepting (row_in bs) s m in
      let (x, y) = turned (put_back bs) (row_in bs) o.reply o.change r is (put_back_lem bs (row_in bs) o.reply (accepting_fits (row_in bs) sized s m).is) in
      (ap refusal_of x, y, e, ap (λ a. again_of a again) x)

  pub asks_in : (s : List ℕ) (n : ℕ) (b w : List ℕ) (count language : ℕ) (r : Turn) (c v : List ℕ) → AskTurn (row_in bs) s n b w r c v
      → AsksIn bs s n b w count language (refusal_of r.reply) (put_back bs r) c v (count_of r.reply count) (language_of r.reply language)
  asks_in s n b w count language r c v (is, low, e, d) =
      let o = asking (row_in bs) s n b w in
      let (x, y) = turned (put_back bs) (row_in bs) o.reply o.change r is (put_back_lem bs (row_in bs) o.reply (asking_fits (row_in bs) sized s n b w).is) in
      (ap refusal_of x, y, e, d, ap (λ a. count_of a count) x, ap (λ a. language_of a language) x)

  pub drops_in : (s : List ℕ) (n : ℕ) (r : Turn) → DropTurn (row_in bs) s n r → DropsIn bs s n (refusal_of r.reply) (put_back bs r)
  drops_in s n r (is, low) =
      let o = dropping (row_in bs) s n in
      let (x, y) = turned (put_back bs) (row_in bs) o.reply o.change r is (put_back_lem bs (row_in bs) o.reply (dropping_fits (row_in bs) sized s n).is) in
      (ap refusal_of x, y)

-- ---- and where there are too few

module _ (bs : List ℕ) (few : length bs < begins four_places) where
  row_short : length (row_in bs) < four_places
  row_short = rw (lt-leb (begins four_places) (length bs) few) (lit< tt)

  pub accepts_few : (s m : List ℕ) (again : ℕ) (a : Reply) → a ≡ Refused (unplaced m) → AcceptsIn bs s m again (refusal_of a) bs s again
  accepts_few s m again a e = rw (accepting_short (row_in bs) s m row_short) (ap refusal_of e, refl, refl, refl)

  pub asks_few : (s : List ℕ) (n : ℕ) (b w : List ℕ) (count language : ℕ) → AsksIn bs s n b w count language (bare 6) bs b w count language
  asks_few s n b w count language = rw (asking_short (row_in bs) s n b w row_short) (refl, refl, refl, refl, refl, refl)

  pub drops_few : (s : List ℕ) (n : ℕ) → DropsIn bs s n (bare 6) bs
  drops_few s n = rw (dropping_short (row_in bs) s n row_short) (refl, refl)
