-- A place of the desk, and what is asked of the four (paper 01, "The desk"). Assumes nothing.
use Rattle.std.specs.Prelude.{ℕ, zero, suc, Bool, true, false, not, cond, ◌&&◌, ◌||◌, List, [], ◌∷◌, leb, ltb, eqb, get_or, set, replicate, Option, Some, None}
use Rattle.format.specs.Message.{between}
use Rattle.packet.specs.Packet.{most_packets, part_bytes_of}
use Rattle.packet.specs.declared.reading.Packet.{Packet}
use Rattle.places.specs.declared.Place.{Place}

-- ---- numbers below a number

-- whether f holds of every number below n
unfoldable pub every_below : ℕ → (ℕ → Bool) → Bool
every_below zero f = true
every_below (suc n) f = every_below n f && f n

-- the least number of which f holds, n of them tried from k on; k + n where it holds of none
unfoldable pub first_from : ℕ → ℕ → (ℕ → Bool) → ℕ
first_from k zero f = k
first_from k (suc n) f = cond (f k) k (first_from (suc k) n f)

-- ---- one place

-- what stands past a row's end
abbrev pub blank : Place
blank = record { «open» = false; number = 0; language = 0; total = 0; sizes = [] }

-- how many bytes of packet number k are held
abbrev pub held : Place → ℕ → ℕ
held p k = get_or p.sizes k 0

-- a size of 0 is a number that is not held
abbrev pub lacks : Place → ℕ → Bool
lacks p k = eqb (held p k) 0

-- a held number is below the total, and a held size is at most 206
abbrev pub entry_good : Place → ℕ → Bool
entry_good p k = lacks p k || (ltb k p.total && leb (held p k) part_bytes_of)

-- an open place: its total within its range, a packet held, every entry good
unfoldable pub good_place : Place → Bool
good_place p = between 1 most_packets p.total && (not (every_below most_packets (lacks p)) && every_below most_packets (entry_good p))

-- a closed place's other entries are not looked at
abbrev pub passes : Place → Bool
passes p = not p.«open» || good_place p

-- open with message number n
abbrev pub serves : Place → ℕ → Bool
serves p n = p.«open» && eqb p.number n

-- two open with one number
abbrev pub clash : Place → Place → Bool
clash p q = q.«open» && serves p q.number

-- ---- what a place becomes

-- opened by a packet of n bytes: no other number is held
abbrev pub opened : Packet → ℕ → Place
opened r n = record { «open» = true; number = r.number; language = r.language; total = r.total; sizes = set (replicate most_packets 0) r.own n }

-- with n bytes of packet number k
abbrev pub holding : Place → ℕ → ℕ → Place
holding p k n = record { «open» = p.«open»; number = p.number; language = p.language; total = p.total; sizes = set p.sizes k n }

-- freed: only the open mark is cleared
abbrev pub freed : Place → Place
freed p = record { «open» = false; number = p.number; language = p.language; total = p.total; sizes = p.sizes }

-- ---- four places

abbrev pub four_places : ℕ
four_places = 4

-- the place number i, where it is one of the four
abbrev pub one_of_four : ℕ → Option ℕ
one_of_four i = cond (ltb i four_places) (Some i) None

abbrev pub place_at : List Place → ℕ → Place
place_at ps i = get_or ps i blank

-- of a longer row only the first four count
abbrev pub front : List Place → List Place
front ps = place_at ps 0 ∷ place_at ps 1 ∷ place_at ps 2 ∷ place_at ps 3 ∷ []

unfoldable pub all_apart : List Place → Bool
all_apart ps = every_below four_places (λ i. every_below i (λ j. not (clash (place_at ps j) (place_at ps i))))

-- no two open with one number, and each that is open is good
unfoldable pub good_places : List Place → Bool
good_places ps = all_apart ps && every_below four_places (λ i. passes (place_at ps i))

-- the open place of message number n; 4 where there is none
unfoldable pub open_at : List Place → ℕ → ℕ
open_at ps n = first_from 0 four_places (λ i. serves (place_at ps i) n)

-- the lowest free place; 4 where there is none
unfoldable pub free_at : List Place → ℕ
free_at ps = first_from 0 four_places (λ i. not (place_at ps i).«open»)
