-- Message 8 with application 412/03, a warning (paper 01, "AIS"; 003, tables 5 and 56 to 62). Assumes nothing.
use Rattle.std.specs.Prelude.{ℕ, ◌+◌, false, List, [], ◌∷◌, get_or, drop}
use Rattle.ais_common.specs.Lead.{application, head_of, leads}
use Rattle.ais_common.specs.declared.head.Asked.{Asked}
use Rattle.warning.specs.Bodies.{Kind, kind_of, type_of, body, body_kind, body_long, body_values, body_of}
use Rattle.format.specs.Fmt.{Fmt, end, choice}
use Rattle.format.specs.Message.{Layout}
use Rattle.format.specs.Words.{◌‥◌, only, ◌▹◌, num, code, fill}
use Rattle.ais_common.specs.Time.{time, spell_time, time_of}
use Rattle.warning.specs.declared.reading.Warning.{Warning}

-- what follows the body
abbrev pub tail : Fmt
tail =
    time
    ▹ num 6 (0 ‥ 48)  -- hours
    ▹ fill 2
    ▹ end

-- what follows the warning type
abbrev pub rest : Kind → Fmt
rest t =
    num 23 (0 ‥ 7_200_000)  -- longitude from 60° E, thousandths of a minute
    ▹ num 23 (0 ‥ 7_200_000)  -- latitude from 50° S
    ▹ body t
    ▹ tail

unfoldable pub warning : Fmt
warning =
    code 6 8
    ▹ num 2 (0 ‥ 3)  -- repeat
    ▹ num 30 (0 ‥ 999_999_999)  -- source
    ▹ fill 2
    ▹ code 10 412
    ▹ code 6 3
    ▹ choice 4 (only 4 2 (1 ‥ 5)) (λ t. rest (kind_of t))  -- warning type, else 2

-- message 8, application 412/03, warning type 1 to 5; 23 bytes
abbrev pub asked : Asked
asked = record { message = 8; application = application 3; choices = 5; bytes = 23 }

unfoldable pub warnings : Layout
warnings = record {
  lead = leads asked (head_of 40 56 4);
  kind = λ vs. 0;
  least = 23;
  most = 23;
  seal = false;
  fmt = warning;
}

-- a record's values, in bit order, with the number of its time
unfoldable pub values_as : Warning → ℕ → List ℕ
values_as r t =
    8
    ∷ r.repeat
    ∷ r.source
    ∷ 0
    ∷ 412
    ∷ 3
    ∷ type_of (body_kind r.body)
    ∷ r.longitude
    ∷ r.latitude
    ∷ body_values r.body (t ∷ r.hours ∷ 0 ∷ [])

abbrev pub values_of : Warning → List ℕ
values_of r = values_as r (spell_time r.time)

-- the number of the time among the values, and of the hours behind it
abbrev pub time_at : Kind → ℕ
time_at t = 9 + body_long t

abbrev pub hours_at : Kind → ℕ
hours_at t = 10 + body_long t

-- the record of values with a body of that kind
unfoldable pub record_as : Kind → List ℕ → Warning
record_as t vs = record {
  repeat = get_or vs 1 0;
  source = get_or vs 2 0;
  longitude = get_or vs 7 0;
  latitude = get_or vs 8 0;
  body = body_of t (drop 9 vs);
  time = time_of (get_or vs (time_at t) 0);
  hours = get_or vs (hours_at t) 0;
}

abbrev pub record_of : List ℕ → Warning
record_of vs = record_as (kind_of (get_or vs 6 0)) vs
