-- The four places as lent bytes, 67 each: the open mark (0 closed, 1 open), message number, language, total, and a size for each of 63 packets. Assumes nothing.
use Rattle.std.specs.Prelude.{ℕ, ◌+◌, ◌*◌, cond, not, List, [], ◌∷◌, leb, eqb, length, take, drop, get_or}
use Rattle.packet.specs.Packet.{most_packets}
use Rattle.places.specs.Desk.{Change, stays, turns, laid}
use Rattle.places.specs.Places.{four_places}
use Rattle.places.specs.declared.Place.{Place}

abbrev pub place_bytes : ℕ
place_bytes = 4 + most_packets

-- where place i begins
abbrev pub begins : ℕ → ℕ
begins i = i * place_bytes

-- a total behind a mark; behind a mark other than 0 and 1 it is 0, which no open place passes the tests with
abbrev pub total_behind : ℕ → ℕ → ℕ
total_behind mark total = cond (leb mark 1) total 0

-- the place that 67 bytes say
abbrev pub place_of : List ℕ → Place
place_of xs = record {
  «open» = not (eqb (get_or xs 0 0) 0);
  number = get_or xs 1 0;
  language = get_or xs 2 0;
  total = total_behind (get_or xs 0 0) (get_or xs 3 0);
  sizes = drop 4 xs;
}

-- place i of the bytes bs
abbrev pub place_in : List ℕ → ℕ → Place
place_in bs i = place_of (take place_bytes (drop (begins i) bs))

-- the row of places; bytes too few for four are a row too short
abbrev pub row_in : List ℕ → List Place
row_in bs = cond (leb (begins four_places) (length bs)) (place_in bs 0 ∷ place_in bs 1 ∷ place_in bs 2 ∷ place_in bs 3 ∷ []) []

-- a place's bytes
abbrev pub bytes_of : Place → List ℕ
bytes_of p = cond p.«open» 1 0 ∷ p.number ∷ p.language ∷ p.total ∷ p.sizes

-- what a change leaves of them
abbrev pub changed_bytes : List ℕ → Change → List ℕ
changed_bytes bs stays = bs
changed_bytes bs (turns i p) = laid bs (begins i) (bytes_of p)
