-- What the code's steps over a time answer: read, and judged. Assumes nothing.
use Rattle.std.specs.Prelude.{ℕ, List, []}
use Rattle.bits.specs.Answers.{got}
use Rattle.walk.specs.Pieces.{piecewise}
use Rattle.walk.specs.Reading.{group_judged}
use Rattle.walk.specs.Walk.{Walk}
use Rattle.ais_common.specs.Time.{date_parts, time_parts}

abbrev pub time_judged : ℕ → Walk → Walk
time_judged v r = group_judged 20 (piecewise time_parts []) v r

abbrev pub short_judged : ℕ → Walk → Walk
short_judged v r = group_judged 14 (piecewise (date_parts []) []) v r

-- read: judged by its number, which is 0 where it is not there
abbrev pub time_read : List ℕ → Walk → Walk
time_read s r = time_judged (got s r.at 20) r

abbrev pub short_read : List ℕ → Walk → Walk
short_read s r = short_judged (got s r.at 14) r
