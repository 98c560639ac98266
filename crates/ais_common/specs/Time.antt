-- The times of the papers (paper 01, "AIS": "Times: month 0 to 12, day 0 to 31, hour 0 to 23, minute 0 to 59"). Assumes nothing.
use Rattle.std.specs.Prelude.{ℕ, ◌+◌, ◌*◌, ◌/◌, ◌%◌, ◌^◌, cond, ◌&&◌, List, [], ◌∷◌, ltb}
use Rattle.format.specs.Fmt.{Fmt}
use Rattle.format.specs.Words.{Part, part, ◌‥◌, group}
use Rattle.ais_common.specs.declared.time.Time.{Time}
use Rattle.ais_common.specs.declared.time.ShortTime.{ShortTime}

-- month, day and hour, each good by itself
abbrev pub date_parts : List Part → List Part
date_parts ps =
    part 4 4 (0 ‥ 12)
    ∷ part 5 4 (0 ‥ 31)
    ∷ part 5 4 (0 ‥ 23)
    ∷ ps

-- of 20 bits, with the minute, and of 14, without
abbrev pub time_parts : List Part
time_parts = date_parts (part 6 4 (0 ‥ 59) ∷ [])

abbrev pub time : Fmt → Fmt
time = group time_parts

abbrev pub short_time : Fmt → Fmt
short_time = group (date_parts [])

-- ---- a record's number: what its parts spell, or too wide a number where one of them is too wide

abbrev pub dated : ℕ → ℕ → ℕ → ℕ
dated month day hour = cond (ltb month 16 && ltb day 32 && ltb hour 32) (month * 1_024 + day * 32 + hour) (2 ^ 14)

abbrev pub timed : ℕ → ℕ → ℕ
timed date minute = cond (ltb date (2 ^ 14) && ltb minute 64) (date * 64 + minute) (2 ^ 20)

unfoldable pub spell_short : ShortTime → ℕ
spell_short t = dated t.month t.day t.hour

unfoldable pub spell_time : Time → ℕ
spell_time t = timed (dated t.month t.day t.hour) t.minute

-- ---- the record of a number

unfoldable pub short_of : ℕ → ShortTime
short_of v = record { month = v / 1_024 % 16; day = v / 32 % 32; hour = v % 32 }

unfoldable pub time_of : ℕ → Time
time_of v = record { month = v / 64 / 1_024 % 16; day = v / 64 / 32 % 32; hour = v / 64 % 32; minute = v % 64 }
