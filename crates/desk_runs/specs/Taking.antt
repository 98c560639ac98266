-- What a packet is answered in a run of calls at the desk (paper 01, "The desk", demand 2), told by the calls before it and the numbers of their replies alone. Assumes nothing.
use Rattle.std.specs.Prelude.{Bool, true, false, not, cond, ◌&&◌, ◌||◌, List, [], ◌∷◌, ℕ, zero, suc, ◌+◌, ltb, eqb}
use Rattle.format.specs.Promises.{answered, read_record}
use Rattle.format.specs.Refusals.{bare}
use Rattle.packet.specs.Packet.{packets, record_of}
use Rattle.places.specs.Places.{four_places}
use Rattle.places.specs.Desk.{alike}
use Rattle.places.specs.Replies.{Reply}
use Rattle.places.specs.Replies.{Done, Again, Refused}
use Rattle.desk_runs.specs.Runs.{Call, Part, since, came, content_of}

-- ---- how many notices are open

-- of how many numbers below n f holds
unfoldable pub count_below : ℕ → (ℕ → Bool) → ℕ
count_below zero f = 0
count_below (suc n) f = count_below n f + cond (f n) 1 0

abbrev pub some : List Part → Bool
some [] = false
some (x ∷ xs) = true

-- how many message numbers there are: a number has 8 bits
abbrev pub most_numbers : ℕ
most_numbers = 256

-- the message numbers of which packets have come since their places were opened
abbrev pub open_notices : List (Call × ℕ) → ℕ
open_notices h = count_below most_numbers (λ n. some (since n h))

-- ---- a packet comes in

-- x does not contradict those of its notice that have come, y the last of them: one language, one total, and no other content at its own number
abbrev pub agrees : Part → Part → List Part → Bool
agrees x y ys =
    eqb x.0.language y.0.language
    && (eqb x.0.total y.0.total && (not (came (y ∷ ys) x.0.own) || alike (content_of (y ∷ ys) x.0.own) x.1))

-- Where n notices are open and xs of its own have come: 8 where none has come and four others are open; 7 where it contradicts them; else it is taken in, as new or as again.
abbrev pub welcome : Part → List Part → ℕ → Reply
welcome x [] n = cond (ltb n four_places) Done (Refused (bare 8))
welcome x (y ∷ ys) n = cond (agrees x y ys) (cond (came (y ∷ ys) x.0.own) Again Done) (Refused (bare 7))

-- what the message m is answered: the packet's own refusal comes first, with its bit
abbrev pub due_for : List (Call × ℕ) → List ℕ → Reply
due_for h m = answered (λ x. welcome x (since x.0.number h) (open_notices h)) Refused (read_record packets record_of m)
