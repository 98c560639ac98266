-- A tide's records told by a row of numbers, one behind another, in bit order: how many numbers they have, how many bits at most, and which numbers. Where the row has no number a good one counts for it, so that its want of room alone is refused (6, last). Assumes nothing.
use Rattle.std.specs.Prelude.{ℕ, ◌+◌, ◌*◌, cond, eqb}
use Rattle.format.specs.Groups.{Measure, then_of, decided_of, repeat_of, Telling, one_told, then_told, decided_told, repeat_told}
use Rattle.notice_fields.specs.Parts.{point_bits}
use Rattle.notice_fields.specs.Row.{point_told}

-- behind the position type: a port's code, or a point's two numbers
abbrev pub placed_long : ℕ → ℕ
placed_long k = cond (eqb k 0) 1 2

abbrev pub placed_bits : ℕ → ℕ
placed_bits k = cond (eqb k 0) 6 point_bits

abbrev pub position_long : Measure
position_long = decided_of 0 (λ k r. placed_long k)

-- an entry: a time, a sign, a value
abbrev pub entry_bits : ℕ
entry_bits = 32

-- a count, and so many entries
abbrev pub entries_long : Measure
entries_long = decided_of 1 (λ n r. n * 3)

-- the position, the forecast mark, the entries
abbrev pub record_long : Measure
record_long = then_of position_long (then_of (λ r. 1) entries_long)

-- at most: a point, the mark, the count, and as many entries as nine bits tell
abbrev pub long_most : ℕ
long_most = 5 + 511 * 3

abbrev pub record_most : ℕ
record_most = 1 + point_bits + (1 + (9 + 511 * entry_bits))

abbrev pub records_long : ℕ → Measure
records_long n = repeat_of record_long n record_long

-- ---- which numbers

abbrev pub placed_told : ℕ → Telling
placed_told k = cond (eqb k 0) (one_told 0) point_told

-- 1 January, 0:00
abbrev pub some_time : ℕ
some_time = 0x1_0800

abbrev pub entry_told : Telling
entry_told = then_told (λ r. 1) (one_told some_time) (then_told (λ r. 1) (one_told 1) (one_told 1))

abbrev pub record_told : Telling
record_told = then_told position_long (decided_told 0 placed_told) (then_told (λ r. 1) (one_told 0) (decided_told 1 (λ n. repeat_told (λ r. 3) n entry_told)))

abbrev pub records_told : ℕ → Telling
records_told n = repeat_told record_long n record_told
