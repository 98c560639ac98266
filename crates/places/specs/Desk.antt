-- The desk (paper 01, "The desk"): what becomes of the places ps and the store s when a packet comes in, a notice is asked for, or one is dropped. Assumes nothing.
use Rattle.std.specs.Prelude.{ℕ, zero, suc, ◌+◌, ◌*◌, Bool, true, false, not, cond, ◌&&◌, ◌||◌, List, [], ◌∷◌, ◌++◌, leb, ltb, eqb, length, take, drop, set}
use Rattle.format.specs.Message.{ahead}
use Rattle.format.specs.Promises.{answered, read_record}
use Rattle.format.specs.Refusals.{bare}
use Rattle.format.specs.Refusals.{Verdict}
use Rattle.packet.specs.Packet.{part_bytes_of, joined, packets, record_of}
use Rattle.packet.specs.declared.reading.Packet.{Packet}
use Rattle.places.specs.Places.{held, lacks, opened, holding, freed, four_places, place_at, front, good_places, open_at, free_at}
use Rattle.places.specs.declared.Place.{Place}
use Rattle.places.specs.Replies.{Reply}
use Rattle.places.specs.Replies.{Done, Again, Joined, Missing, Refused}
use Rattle.places.specs.Replies.{Turn}

-- ---- the store

abbrev pub store_bytes : ℕ
store_bytes = four_places * joined

-- where packet number k of place i stands
abbrev pub cell : ℕ → ℕ → ℕ
cell i k = i * joined + k * part_bytes_of

-- the bytes held of it, where place i is p
abbrev pub in_cell_of : List ℕ → ℕ → Place → ℕ → List ℕ
in_cell_of s i p k = take (held p k) (drop (cell i k) s)

-- s with c in it from byte at on
abbrev pub laid : List ℕ → ℕ → List ℕ → List ℕ
laid s at c = take at s ++ (c ++ drop (at + length c) s)

-- the same where c fits; else s stays
abbrev pub laid_within : List ℕ → ℕ → List ℕ → List ℕ
laid_within s at c = cond (leb (at + length c) (length s)) (laid s at c) s

-- whether two runs of bytes are the same
unfoldable pub alike : List ℕ → List ℕ → Bool
alike [] [] = true
alike [] (y ∷ ys) = false
alike (x ∷ xs) [] = false
alike (x ∷ xs) (y ∷ ys) = eqb x y && alike xs ys

-- ---- answers

-- the refusal of each: none for success, 9 for a list of missing numbers
abbrev pub refusal_of : Reply → Verdict
refusal_of Done = bare 0
refusal_of Again = bare 0
refusal_of (Joined n l) = bare 0
refusal_of (Missing n) = bare 9
refusal_of (Refused r) = r

-- what a call does to the row of places: nothing, or one place becomes another
pub data Change : Type 0 where
  stays : Change
  turns : (at : ℕ) → Place → Change

abbrev pub applied : List Place → Change → List Place
applied ps stays = ps
applied ps (turns i p) = set ps i p

-- the same as a place and its number, where the first four are ps: a row that stays has its first place again
abbrev pub turn_of : List Place → Reply → Change → Turn
turn_of ps a stays = record { at = 0; place = place_at ps 0; reply = a }
turn_of ps a (turns i p) = record { at = i; place = p; reply = a }

-- the first tests of every call: store and row long enough (6), then the places (4)
unfoldable pub first_tests : List Place → List ℕ → ℕ
first_tests ps s = cond (leb four_places (length ps) && leb store_bytes (length s)) (cond (good_places ps) 0 4) 6

-- ---- a packet comes in

pub record Accepting : Type 0 where
  pub reply : Reply
  pub change : Change
  pub store : List ℕ

abbrev pub turned_away : List ℕ → Verdict → Accepting
turned_away s refusal = record { reply = Refused refusal; change = stays; store = s }

-- packet r with content c is put into place i, which becomes p: only its bytes change
abbrev pub taken : List ℕ → ℕ → Place → Packet → List ℕ → Accepting
taken s i p r c = record { reply = Done; change = turns i p; store = laid s (cell i r.own) c }

-- other language or total, or other content at a held number
abbrev pub contradicts : List ℕ → ℕ → Place → Packet → List ℕ → Bool
contradicts s i p r c = not (eqb r.language p.language && (eqb r.total p.total && (lacks p r.own || alike (in_cell_of s i p r.own) c)))

-- its notice is open in place i, which is p
unfoldable pub joins : List ℕ → ℕ → Place → Packet → List ℕ → Accepting
joins s i p r c =
    cond (contradicts s i p r c) (turned_away s (bare 7))
    (cond (lacks p r.own) (taken s i (holding p r.own (length c)) r c) (record { reply = Again; change = stays; store = s }))

-- its notice is not open, and the lowest free place is i
abbrev pub opens : List ℕ → ℕ → Packet → List ℕ → Accepting
opens s i r c = cond (ltb i four_places) (taken s i (opened r (length c)) r c) (turned_away s (bare 8))

unfoldable pub received : List Place → List ℕ → Packet → List ℕ → Accepting
received ps s r c = let i = open_at ps r.number in cond (ltb i four_places) (joins s i (place_at ps i) r c) (opens s (free_at ps) r c)

-- the packet's own refusals, with their bits; the first tests; then the places. What the desk itself refuses has no bit.
unfoldable pub accepting : List Place → List ℕ → List ℕ → Accepting
accepting ps s m =
    answered (λ x. let code = first_tests ps s in cond (eqb code 0) (received (front ps) s x.0 x.1) (turned_away s (bare code))) (turned_away s)
    (read_record packets record_of m)

-- what a packet is refused by where the row of places is too short: its own refusal comes first
abbrev pub unplaced : List ℕ → Verdict
unplaced m = answered (λ x. bare 6) (λ refusal. refusal) (read_record packets record_of m)

-- ---- a notice is asked for, with a buffer b for its bytes and a row w for missing numbers

-- the numbers below n that are not held, rising
unfoldable pub missing_below : ℕ → Place → List ℕ
missing_below zero p = []
missing_below (suc n) p = missing_below n p ++ cond (lacks p n) (n ∷ []) []

-- the packets below n of place i, joined in number order
unfoldable pub joined_below : ℕ → List ℕ → ℕ → Place → List ℕ
joined_below zero s i p = []
joined_below (suc n) s i p = joined_below n s i p ++ in_cell_of s i p n

pub record Asking : Type 0 where
  pub reply : Reply
  pub change : Change
  pub notice : List ℕ
  pub missing : List ℕ

abbrev pub not_answered : List ℕ → List ℕ → Verdict → Asking
not_answered b w refusal = record { reply = Refused refusal; change = stays; notice = b; missing = w }

-- the missing numbers ns in front of the row
abbrev pub lists : List ℕ → List ℕ → List ℕ → Asking
lists ns b w =
    cond (leb (length ns) (length w)) (record { reply = Missing (length ns); change = stays; notice = b; missing = ahead ns w })
    (not_answered b w (bare 6))

-- the joined bytes c in front of the buffer, and place i, which is p, is free
abbrev pub hands_out : List ℕ → ℕ → Place → List ℕ → List ℕ → Asking
hands_out c i p b w =
    cond (leb (length c) (length b)) (record { reply = Joined (length c) p.language; change = turns i (freed p); notice = ahead c b; missing = w })
    (not_answered b w (bare 6))

unfoldable pub answers : List ℕ → ℕ → Place → List ℕ → List ℕ → Asking
answers s i p b w =
    let ns = missing_below p.total p in
    cond (eqb (length ns) 0) (hands_out (joined_below p.total s i p) i p b w) (lists ns b w)

unfoldable pub asking : List Place → List ℕ → ℕ → List ℕ → List ℕ → Asking
asking ps s n b w =
    let code = first_tests ps s in
    let i = open_at (front ps) n in
    cond (eqb code 0) (cond (ltb i four_places) (answers s i (place_at (front ps) i) b w) (not_answered b w (bare 11))) (not_answered b w (bare code))

-- ---- a notice is dropped

pub record Dropping : Type 0 where
  pub reply : Reply
  pub change : Change

unfoldable pub dropping : List Place → List ℕ → ℕ → Dropping
dropping ps s n =
    let code = first_tests ps s in
    let i = open_at (front ps) n in
    cond (eqb code 0) (cond (ltb i four_places) (record { reply = Done; change = turns i (freed (place_at (front ps) i)) }) (record { reply = Refused (bare 11); change = stays }))
    (record { reply = Refused (bare code); change = stays })
