-- Runs of calls at the desk (paper 01, "The desk", demand 2), and which packets have come, told by the calls and the numbers of their replies alone. Assumes nothing.
use Rattle.std.specs.Prelude.{◌≡◌, Bool, true, false, cond, ◌||◌, List, [], ◌∷◌, ◌++◌, ℕ, zero, suc, ◌≤◌, ◌<◌, leb, eqb, length, replicate}
use Rattle.format.specs.Message.{ahead}
use Rattle.format.specs.Promises.{answered, read_record}
use Rattle.format.specs.Refusals.{bare}
use Rattle.packet.specs.Packet.{packets, record_of}
use Rattle.packet.specs.declared.reading.Packet.{Packet}
use Rattle.places.specs.Places.{blank, four_places, place_at}
use Rattle.places.specs.Desk.{store_bytes, refusal_of, applied, accepting, Asking, asking, dropping}
use Rattle.places.specs.declared.Place.{Place}
use Rattle.places.specs.Replies.{Reply}
use Rattle.places.specs.Replies.{Joined, Missing, Refused}

-- ---- calls and runs

-- what every call is lent, and what it leaves
pub record Desk : Type 0 where
  pub places : List Place
  pub store : List ℕ

-- no place is open, whatever stands in the places and the store
pub record Empty (d : Desk) : Type 0 where
  pub wide : four_places ≤ length d.places
  pub deep : store_bytes ≤ length d.store
  pub closed : (i : ℕ) → i < four_places → (place_at d.places i).«open» ≡ false

-- one such desk, with nothing but zeros in its store
abbrev pub empty : Desk
empty = record { places = replicate four_places blank; store = replicate store_bytes 0 }

pub data Call : Type 0 where
  -- a packet comes in
  comes : (message : List ℕ) → Call
  -- a notice is asked for, with a buffer for its bytes and a row for missing numbers
  asks : (number : ℕ) (buffer row : List ℕ) → Call
  -- a notice is dropped
  drops : (number : ℕ) → Call

abbrev pub reply_to : Call → Desk → Reply
reply_to (comes m) d = (accepting d.places d.store m).reply
reply_to (asks n b w) d = (asking d.places d.store n b w).reply
reply_to (drops n) d = (dropping d.places d.store n).reply

-- the number alone of a reply's refusal
abbrev pub number_of : Reply → ℕ
number_of a = (refusal_of a).code

abbrev pub after : Call → Desk → Desk
after (comes m) d = let o = accepting d.places d.store m in record { places = applied d.places o.change; store = o.store }
after (asks n b w) d = record { places = applied d.places (asking d.places d.store n b w).change; store = d.store }
after (drops n) d = record { places = applied d.places (dropping d.places d.store n).change; store = d.store }

-- the calls cs, the last of them in front, each lent what the one before left: what they leave of d
unfoldable pub run : Desk → List Call → Desk
run d [] = d
run d (c ∷ cs) = after c (run d cs)

-- the same calls, each with the number of its reply
unfoldable pub log : Desk → List Call → List (Call × ℕ)
log d [] = []
log d (c ∷ cs) = (c, number_of (reply_to c (run d cs))) ∷ log d cs

-- ---- the packets of a notice that have come

-- a packet's record and its content
abbrev pub Part : Type 0
Part = Packet × List ℕ

-- the packet of message number n in a call, if there is one
abbrev pub brings : ℕ → Call → List Part
brings n (comes m) = answered (λ x. cond (eqb x.0.number n) (x ∷ []) []) (λ refusal. []) (read_record packets record_of m)
brings n (asks k b w) = []
brings n (drops k) = []

-- whether a call frees the place of message number n, where its reply is 0
abbrev pub frees : ℕ → Call → Bool
frees n (comes m) = false
frees n (asks k b w) = eqb k n
frees n (drops k) = eqb k n

-- an entry of the log, where xs had come before: a call that was refused changes nothing
abbrev pub grown : ℕ → Call × ℕ → List Part → List Part
grown n e xs = cond (eqb e.1 0) (cond (frees n e.0) [] (brings n e.0 ++ xs)) xs

-- the packets of message number n that were accepted since its place was opened, the last of them in front; none where no place is open
unfoldable pub since : ℕ → List (Call × ℕ) → List Part
since n [] = []
since n (e ∷ h) = grown n e (since n h)

-- ---- what they are together

-- whether one of them has own number k
unfoldable pub came : List Part → ℕ → Bool
came [] k = false
came (x ∷ xs) k = eqb x.0.own k || came xs k

-- the content of the last that has own number k
unfoldable pub content_of : List Part → ℕ → List ℕ
content_of [] k = []
content_of (x ∷ xs) k = cond (eqb x.0.own k) x.1 (content_of xs k)

-- the numbers below t of which none has come, rising
unfoldable pub not_come : ℕ → List Part → List ℕ
not_come zero xs = []
not_come (suc t) xs = not_come t xs ++ cond (came xs t) [] (t ∷ [])

-- the contents of the numbers below t, in number order
unfoldable pub in_order_of : ℕ → List Part → List ℕ
in_order_of zero xs = []
in_order_of (suc t) xs = in_order_of t xs ++ content_of xs t

-- all packets of their notice have come: each number below the total
abbrev pub Complete : List Part → Type 0
Complete [] = ⊥
Complete (x ∷ xs) = (k : ℕ) → k < x.0.total → came (x ∷ xs) k ≡ true

-- ---- asking

-- what asking gives: the reply, and what is left of the buffer and the row
pub record Given : Type 0 where
  pub reply : Reply
  pub notice : List ℕ
  pub missing : List ℕ

abbrev pub given : Asking → Given
given o = record { reply = o.reply; notice = o.notice; missing = o.missing }

abbrev pub asked : ℕ → List ℕ → List ℕ → Desk → Given
asked n b w d = given (asking d.places d.store n b w)

-- the desk's own refusals tell no bit
abbrev pub refusal : List ℕ → List ℕ → ℕ → Given
refusal b w code = record { reply = Refused (bare code); notice = b; missing = w }

-- Demand 2: what is due for the packets xs that have come. 11 where there is none; the missing numbers where one has not come; else their contents in number order, with their language; 6 where there is no room.
abbrev pub due : List Part → List ℕ → List ℕ → Given
due [] b w = refusal b w 11
due (x ∷ xs) b w =
    let ns = not_come x.0.total (x ∷ xs) in
    let c = in_order_of x.0.total (x ∷ xs) in
    cond (eqb (length ns) 0)
    (cond (leb (length c) (length b)) (record { reply = Joined (length c) x.0.language; notice = ahead c b; missing = w }) (refusal b w 6))
    (cond (leb (length ns) (length w)) (record { reply = Missing (length ns); notice = b; missing = ahead ns w }) (refusal b w 6))
