-- The tide telegram (paper 02, C-11; 000, 5.4). Assumes nothing.
use Rattle.std.specs.Prelude.{ℕ, cond, List, [], ◌∷◌, eqb}
use Rattle.format.specs.Codes.{Code, just, headed}
use Rattle.format.specs.Fmt.{Fmt, end}
use Rattle.format.specs.Groups.{repeat, counted}
use Rattle.format.specs.Message.{Layout}
use Rattle.format.specs.Words.{Test, ◌‥◌, ◌▹◌, num, deciding, ago}
use Rattle.notice_fields.specs.Terms.{point}
use Rattle.notice_fields.specs.Parts.{time}

-- by the position type: a port's code, which is carried, or a point, which is the notice's
unfoldable pub placed : ℕ → Fmt → Fmt
placed k f = cond (eqb k 0) (num 6 (0 ‥ 63) f) (point f)

abbrev pub position : Fmt → Fmt
position f = deciding 1 (0 ‥ 1) λ k. placed k f

-- the least value behind a sign: sign 0 is negative, and 0 centimetres have one form, sign 1
abbrev pub least_of : ℕ → ℕ
least_of sign = cond (eqb sign 0) 1 0

abbrev pub level : Test
level h = (least_of (ago 0 h) ‥ 1_023) h

-- a time, which is never all zeros; a sign; a value in centimetres
abbrev pub entry : Fmt → Fmt
entry f = time ▹ num 1 (0 ‥ 1) ▹ num 10 level ▹ f

-- a position, the forecast mark, and at least one entry
abbrev pub tide_record : Fmt → Fmt
tide_record f = position ▹ num 1 (0 ‥ 1) ▹ counted 9 (1 ‥ 511) entry ▹ f

-- what follows the count of records: these, and a fill of 0 to 7 bits
abbrev pub rest : ℕ → Fmt
rest n = repeat n tide_record ▹ end

-- the type 0xE4, version 1, data class 0
abbrev pub front : List Code
front = just 8 0xE4 ∷ just 3 1 ∷ just 1 0 ∷ []

-- at least one record
abbrev pub records : Fmt
records = deciding 9 (1 ‥ 511) rest

-- 9 to 210 bytes
unfoldable pub tides : Layout
tides = headed front 9 210 (λ vs. 0) records
