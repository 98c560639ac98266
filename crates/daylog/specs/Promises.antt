-- What each public call promises of the bytes that it is lent: its answer, and the bytes that it leaves. Assumes nothing.
use Rattle.std.specs.Prelude.{◌≡◌, ℕ, ◌-◌, ◌≤◌, cond, ◌&&◌, Result, Ok, Err, List, [], ◌∷◌, length, take, drop, nat_le}
use Rattle.daylog.specs.Text.{head}
use Rattle.daylog.specs.Records.{Entry, records, size_of}
use Rattle.daylog.specs.Kinds.{entry_line}
use Rattle.daylog.specs.Log.{after, after_all, lines, ending_of}
use Rattle.format.specs.declared.Reason.{Reason}
use Rattle.format.specs.Refusals.{number}
use Rattle.daylog.specs.declared.Listed.{Listed as Declared}
use Rattle.daylog.specs.Stores.{Made}

-- ---- what the calls answer: a number, 0 where they refuse nothing, and what they made

-- how many bytes were laid at the front of a lent slice
pub record Laid : Type 0 where
  pub code : ℕ
  pub bytes : ℕ

-- how many bytes of a window are listed, how many bytes of text they made, and the next record's number
pub record Listed : Type 0 where
  pub code : ℕ
  pub used : ℕ
  pub made : ℕ
  pub number : ℕ

abbrev pub laid_of : Result ℕ Reason → Laid
laid_of (Ok n) = record { code = 0; bytes = n }
laid_of (Err r) = record { code = number r; bytes = 0 }

-- where the first record was to be number n
abbrev pub listed_of : ℕ → Result Declared Reason → Listed
listed_of n (Ok l) = record { code = 0; used = l.used; made = l.made; number = l.number }
listed_of n (Err r) = record { code = number r; used = 0; made = 0; number = n }

-- ---- one text

-- 6 where the text t has no room in `out`
abbrev pub room_code : List ℕ → List ℕ → ℕ
room_code out t = cond (nat_le (length t) (length out)) 0 6

-- the text where it has
abbrev pub roomed : List ℕ → List ℕ → List ℕ
roomed out t = cond (nat_le (length t) (length out)) t []

pub record Lays (out t : List ℕ) (r : Laid) (left : List ℕ) : Type 0 where
  pub code : r.code ≡ room_code out t
  pub text : Made out (roomed out t) r.bytes left

abbrev pub Ends : List ℕ → ℕ → ℕ → Laid → List ℕ → Type 0
Ends out n bytes r left = Lays out (ending_of n bytes) r left

abbrev pub Heads : List ℕ → Laid → List ℕ → Type 0
Heads out r left = Lays out head r left

-- ---- a window

-- of the records es, those whose lines have room, one after the other
unfoldable pub listed : ℕ → ℕ → List Entry → List Entry
listed room n [] = []
listed room n (e ∷ es) = cond (nat_le (length (entry_line n e)) room) (e ∷ listed (room - length (entry_line n e)) (after n) es) []

-- the records of the window s that a call lists into `out`
abbrev pub chosen : List ℕ → ℕ → List ℕ → List Entry
chosen s n out = listed (length out) n (records s)

-- 6 where there are records, and not even the first one's line has room
abbrev pub crowded : List Entry → List Entry → ℕ
crowded [] es = 0
crowded (e ∷ all) [] = 6
crowded (e ∷ all) (d ∷ es) = 0

pub record Lists (s : List ℕ) (n : ℕ) (out : List ℕ) (r : Listed) (left : List ℕ) : Type 0 where
  pub code : r.code ≡ crowded (records s) (chosen s n out)
  pub used : r.used ≡ size_of (chosen s n out)
  pub number : r.number ≡ after_all n (chosen s n out)
  pub text : Made out (lines n (chosen s n out)) r.made left
  -- 76 bytes are room for any line
  pub enough : 76 ≤ length out → r.code ≡ 0

-- ---- what is kept

-- 4 where the end e comes before the start a, 6 where it lies past the bytes s
abbrev pub keep_code : List ℕ → ℕ → ℕ → ℕ
keep_code s a e = cond (nat_le a e) (cond (nat_le e (length s)) 0 6) 4

-- the bytes of s from offset a up to offset e, none where these are no offsets of it
abbrev pub span : List ℕ → ℕ → ℕ → List ℕ
span s a e = cond (nat_le e (length s) && nat_le a e) (take (e - a) (drop a s)) []

pub record Keeps (s : List ℕ) (a e : ℕ) (r : Laid) (left : List ℕ) : Type 0 where
  pub code : r.code ≡ keep_code s a e
  pub kept : Made s (span s a e) r.bytes left
