-- What judging and putting the records that a row of numbers tells gives: an entry, a position by its type, a record, and all of them. Assumes nothing.
use Rattle.std.specs.Prelude.{ℕ, ◌+◌, cond, List, eqb, get_or}
use Rattle.format.specs.Correcting.{put_in}
use Rattle.walk.specs.Judging.{valued}
use Rattle.walk.specs.Rows.{JudgeStep, one_judged, then_judged, decided_judged, even_judged, counted_judged, repeat_judged, PutStep, one_put, then_put, decided_put, even_put, counted_put, repeat_put}
use Rattle.walk.specs.Walk.{Walk}
use Rattle.notice_fields.specs.Making.{point_judged, point_put}
use Rattle.notice_fields.specs.Parts.{point_bits}
use Rattle.notice_fields.specs.PartsSteps.{time_judged}
use Rattle.tide.specs.Row.{entry_bits, some_time}
use Rattle.tide.specs.Tide.{least_of}

-- ---- judged

-- a sign and a value, whose least hangs on the sign
abbrev pub level_judged : ℕ → ℕ → Walk → Walk
level_judged sign v r = valued 10 v (least_of sign) 1_023 (valued 1 sign 0 1 r)

-- the entry that begins with number k of the row
abbrev pub entry_judged : List ℕ → ℕ → Walk → Walk
entry_judged row k r = level_judged (get_or row (k + 1) 1) (get_or row (k + 2) 1) (time_judged (get_or row k some_time) r)

abbrev pub entries_judged : List ℕ → ℕ → ℕ → Walk → Walk
entries_judged row n = even_judged 3 n (entry_judged row)

-- behind the position type
abbrev pub placed_judged : List ℕ → ℕ → JudgeStep
placed_judged row kind k r = cond (eqb kind 0) (one_judged row 0 (λ v. valued 6 v 0 63) k r) (record { walk = point_judged row k r; next = k + 2 })

-- a record; behind a refused count of entries these are not walked
abbrev pub record_judged : List ℕ → JudgeStep
record_judged row = then_judged (decided_judged row 0 1 0 1 (placed_judged row)) (then_judged (one_judged row 0 (λ v. valued 1 v 0 1)) (counted_judged row 1 9 1 511 3 (entry_judged row)))

-- n records; the first refused one ends it
abbrev pub records_judged : List ℕ → ℕ → JudgeStep
records_judged row n = repeat_judged n (record_judged row)

-- ---- put

-- a time, a sign and a value, at bit `at` of t
abbrev pub three_put : (time sign value at : ℕ) → List ℕ → List ℕ
three_put time sign value at t = put_in (put_in (put_in t at 21 time) (at + 21) 1 sign) (at + 21 + 1) 10 value

-- the entry that begins with number k
abbrev pub entry_put : List ℕ → (k at : ℕ) → List ℕ → List ℕ
entry_put row k at t = three_put (get_or row k some_time) (get_or row (k + 1) 1) (get_or row (k + 2) 1) at t

abbrev pub entries_put : List ℕ → (n k at : ℕ) → List ℕ → List ℕ
entries_put row n = even_put 3 entry_bits n (entry_put row)

-- behind the position type
abbrev pub placed_put : List ℕ → ℕ → PutStep
placed_put row kind k at t = cond (eqb kind 0) (one_put row 0 6 k at t) (record { at = at + point_bits; next = k + 2 }, point_put row k at t)

-- a record; of a count of entries no more than its nine bits is put
abbrev pub record_put : List ℕ → PutStep
record_put row = then_put (decided_put row 0 1 (placed_put row)) (then_put (one_put row 0 1) (counted_put row 1 9 3 entry_bits (entry_put row)))

abbrev pub records_put : List ℕ → ℕ → PutStep
records_put row n = repeat_put n (record_put row)
