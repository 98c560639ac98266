-- A program that lists a log, turn by turn: what a turn answers, and the input and the text that it leaves. Assumes nothing.
use Rattle.std.specs.Prelude.{◌≡◌, ℕ, ◌+◌, ◌%◌, ◌^◌, ◌<◌, ◌≤◌, Bool, true, false, cond, not, List, length, take, drop, ◌==◌, nat_le, nat_lt, Option, Some, None, is_some, Result}
use Rattle.format.specs.Message.{ahead}
use Rattle.daylog.specs.Text.{head}
use Rattle.daylog.specs.Records.{front, records, size_of}
use Rattle.daylog.specs.Log.{after_all, lines, ending_of}
use Rattle.daylog.specs.Promises.{room_code, roomed, chosen, crowded}
use Rattle.daylog.specs.declared.turns.State.{State as Declared}
use Rattle.format.specs.declared.Reason.{Reason}
use Rattle.format.specs.Refusals.{code_of}
use Rattle.daylog.specs.declared.records.Next.{Next}
use Rattle.daylog.specs.declared.records.Next.TheVariants.{Record, Bad, Short}

-- what the program does next: so many bytes of text are written; whether the listing is done then, and by which number; the next record's
-- number; how many bytes wait; whether a broken record has begun, and how many of its bytes were counted
pub record State : Type 0 where
  pub made : ℕ
  pub done : Bool
  pub code : ℕ
  pub number : ℕ
  pub waiting : ℕ
  pub broken : Bool
  pub left : ℕ

abbrev pub ended_by : Option (Result Unit Reason) → ℕ
ended_by (Some v) = code_of v
ended_by None = 0

abbrev pub counted_of : Option ℕ → ℕ
counted_of (Some n) = n
counted_of None = 0

abbrev pub seen : Declared → State
seen t = record {
  made = t.made;
  done = is_some t.ended;
  code = ended_by t.ended;
  number = t.number;
  waiting = t.waiting;
  broken = is_some t.broken;
  left = counted_of t.broken;
}

-- the first turn: the heading
abbrev pub begun : List ℕ → State
begun text = record {
  made = length (roomed text head);
  done = not (room_code text head == 0);
  code = room_code text head;
  number = 1;
  waiting = 0;
  broken = false;
  left = 0;
}

pub record Begins (text : List ℕ) (r : State) (left : List ℕ) : Type 0 where
  pub answer : r ≡ begun text
  pub leaves : left ≡ ahead (roomed text head) text

-- ---- the turns after it

-- what a turn answers, and the input and the text that it leaves
pub record Out : Type 0 where
  pub turn : State
  pub input : List ℕ
  pub text : List ℕ

abbrev pub Gives : State → List ℕ → List ℕ → Out → Type 0
Gives r kept left o = ◌≡◌ {A = Out} (record { turn = r; input = kept; text = left }) o

-- the listing ends by a code, and with so many bytes of text
abbrev pub stopped : State → ℕ → ℕ → State
stopped t code made = record {
  made = made;
  done = true;
  code = code;
  number = t.number;
  waiting = t.waiting;
  broken = t.broken;
  left = t.left;
}

-- it ends with nothing more to write
abbrev pub refusing : State → List ℕ → List ℕ → ℕ → Out
refusing t input text code = record { turn = stopped t code 0; input = input; text = text }

-- it ends with a last line, where that has room
abbrev pub closing : State → List ℕ → List ℕ → List ℕ → Out
closing t input text line = record { turn = stopped t (room_code text line) (length (roomed text line)); input = input; text = ahead (roomed text line) text }

-- The log has ended, and so many bytes are left. None were read either where there was no room to read into: that is 6.
abbrev pub ending : State → ℕ → List ℕ → List ℕ → Out
ending t left input text = cond (nat_lt t.waiting (length input)) (closing t input text (ending_of t.number left)) (refusing t input text 6)

-- it reads on: so much text was made, the next record has number n, and so many bytes wait or were counted
abbrev pub on : ℕ → ℕ → ℕ → Bool → ℕ → State
on made n waiting broken left = record { made = made; done = false; code = 0; number = n; waiting = waiting; broken = broken; left = left }

-- a broken record has begun: what is read is counted
abbrev pub counting : State → List ℕ → ℕ → List ℕ → Out
counting t input got text =
    cond (got == 0)
    (ending t t.left input text)
    (record { turn = on 0 t.number t.waiting true ((t.left + got) % 2 ^ 64); input = input; text = text })

abbrev pub is_bad : Next → Bool
is_bad (Record k i) = false
is_bad Bad = true
is_bad Short = false

-- what a window has left waits at the front of the input, or is counted where a broken record begins
abbrev pub keeping : ℕ → ℕ → List ℕ → List ℕ → List ℕ → Out
keeping made n rest input text =
    cond (is_bad (front rest))
    (record { turn = on made n 0 true (length rest); input = input; text = text })
    (record { turn = on made n (length rest) false 0; input = ahead rest input; text = text })

-- The window w is listed. Where it has no whole record and no more was read, the log has ended.
abbrev pub listing_of : State → List ℕ → List ℕ → ℕ → List ℕ → Out
listing_of t w input got text =
    let es = chosen w t.number text in
    cond (crowded (records w) es == 0)
    (cond (size_of es + got == 0)
    (ending t (length w) input text)
    (keeping (length (lines t.number es)) (after_all t.number es) (drop (size_of es) w) input (ahead (lines t.number es) text)))
    (refusing t input text (crowded (records w) es))

-- the window is what waits, and what was read behind it
abbrev pub windowing : State → List ℕ → ℕ → List ℕ → Out
windowing t input got text =
    cond (nat_le (t.waiting + got) (length input)) (listing_of t (take (t.waiting + got) input) input got text) (refusing t input text 6)

unfoldable pub turned : State → List ℕ → ℕ → List ℕ → Out
turned t input got text =
    cond t.done (refusing t input text t.code) (cond t.broken (counting t input got text) (windowing t input got text))

-- a turn after so many bytes were read
pub record Turns (t : State) (input : List ℕ) (got : ℕ) (text : List ℕ) (r : State) (kept left : List ℕ) : Type 0 where
  pub is : Gives r kept left (turned t input got text)
  -- 76 bytes are room for any line
  pub enough : t.done ≡ false → 76 ≤ length text → t.waiting < length input → t.waiting + got ≤ length input → r.code ≡ 0
