-- What the code's walk over a tide telegram gives: a record up to its entries, an entry, all records, and the whole. Assumes nothing.
use Rattle.std.specs.Prelude.{ℕ, true, false, cond, List, [], eqb}
use Rattle.bits.specs.Bits.{bits_of}
use Rattle.format.specs.Fmt.{Out, read}
use Rattle.walk.specs.Groups.{Step, single, then_step, unless_refused, repeat_walked}
use Rattle.walk.specs.Reading.{ranged, ended}
use Rattle.walk.specs.Walk.{Walk, seen, begun}
use Rattle.notice_fields.specs.PartsSteps.{time_read, latitude_read, longitude_read}
use Rattle.tide.specs.Tide.{least_of, tides}
use Rattle.tide.specs.declared.reading.Course.{Course as Declared}
use Rattle.tide.specs.declared.reading.Tide.{Tide}

-- behind the position type k
abbrev pub placed_read : List ℕ → ℕ → Walk → Walk
placed_read s k r = cond (eqb k 0) (ranged s 6 true 0 63 4 r) (longitude_read s (latitude_read s r))

-- behind the position type that r walked, up to the entries: how many they are is the walk's value
abbrev pub count_read : List ℕ → Walk → Walk
count_read s r = ranged s 9 false 1 511 4 (ranged s 1 true 0 1 4 (placed_read s r.v r))

-- a record up to its entries, unless its position type was refused
abbrev pub opened_at : List ℕ → Walk → Walk
opened_at s r = let kind = ranged s 1 false 0 1 4 r in cond (eqb kind.code 0) (count_read s kind) kind

-- a sign and a value, whose least hangs on the sign
abbrev pub level_read : List ℕ → Walk → Walk
level_read s r = let sign = ranged s 1 true 0 1 4 r in ranged s 10 true (least_of sign.v) 1_023 4 sign

abbrev pub entry_read : List ℕ → Walk → Walk
entry_read s r = level_read s (time_read s r)

-- a refused entry ends the walk, and so do a refused position type and a refused head of a record
abbrev pub entry_step : List ℕ → Step
entry_step s = then_step (single (entry_read s)) unless_refused

abbrev pub entries_step : List ℕ → ℕ → Step
entries_step s n = then_step unless_refused (repeat_walked n (entry_step s))

unfoldable pub record_step : List ℕ → Step
record_step s next r =
    let kind = ranged s 1 false 0 1 4 r in
    let opened = count_read s kind in
    cond (eqb kind.code 0) (entries_step s opened.v next opened) kind

-- over n records
abbrev pub records_walked : List ℕ → ℕ → Walk → Walk
records_walked s n r = repeat_walked n (record_step s) (λ w. w) r

-- ---- the whole

-- the walk over a whole telegram, and its record
pub record Course : Type 0 where
  pub walk : Walk
  pub tide : Tide

abbrev pub course : Declared → Course
course f = record { walk = seen f.walk; tide = f.tide }

-- what reading the fields of s answers
abbrev pub fields_read : List ℕ → Out (List ℕ)
fields_read s = read tides.fmt [] 0 (bits_of s)

-- up to the records, with field i sought
abbrev pub head_read : ℕ → List ℕ → Walk
head_read i s = ranged s 9 false 1 511 4 (ranged s 1 false 0 0 2 (ranged s 3 false 1 1 2 (ranged s 8 false 0xE4 0xE4 2 (begun 0 i))))

-- what the first tests refused by the number c
abbrev pub unread_by : ℕ → Course
unread_by c = record { walk = begun c 0; tide = record { count = 0 } }

-- from the head on
abbrev pub behind : List ℕ → Walk → Course
behind s head = record { walk = ended s (records_walked s head.v head); tide = record { count = head.v } }

-- the whole telegram, with field i sought; what the first tests refuse is not walked
unfoldable pub course_of : ℕ → List ℕ → Course
course_of i s = let first = tides.lead s in cond (eqb first 0) (behind s (head_read i s)) (unread_by first)
