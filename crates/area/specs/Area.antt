-- Message 6 with application 412/11, an area marked off (paper 01, "AIS"; 003, tables 4 and 38 to 40). Assumes nothing.
use Rattle.std.specs.Prelude.{ℕ, false, List, [], ◌∷◌, get_or}
use Rattle.ais_common.specs.Lead.{application, head_of, leads}
use Rattle.ais_common.specs.declared.head.Asked.{Asked}
use Rattle.format.specs.Fmt.{Fmt, end, choice}
use Rattle.format.specs.Message.{Layout}
use Rattle.format.specs.Words.{◌‥◌, only, ◌▹◌, num, code, fill}
use Rattle.ais_common.specs.Time.{time, short_time, spell_time, time_of, spell_short, short_of}
use Rattle.area.specs.Shapes.{kind_of, type_of, shape, shape_kind, shape_values, shape_of}
use Rattle.area.specs.declared.reading.Area.{Area}

-- what follows the shape
abbrev pub tail : Fmt
tail =
    time
    ▹ short_time
    ▹ num 4 (1 ‥ 6)  -- advice
    ▹ fill 6
    ▹ end

unfoldable pub area : Fmt
area =
    code 6 6
    ▹ num 2 (0 ‥ 3)  -- repeat
    ▹ num 30 (0 ‥ 999_999_999)  -- source
    ▹ num 2 (0 ‥ 3)  -- sequence
    ▹ num 30 (0 ‥ 999_999_999)  -- destination
    ▹ num 1 (0 ‥ 1)  -- resent
    ▹ fill 1
    ▹ code 10 412
    ▹ code 6 11
    ▹ num 4 (1 ‥ 14)  -- area kind
    ▹ choice 2 (only 2 2 (1 ‥ 2)) (λ t. shape (kind_of t) tail)  -- shape, else 2

-- message 6, application 412/11, shape 1 or 2; 31 bytes
abbrev pub asked : Asked
asked = record { message = 6; application = application 11; choices = 2; bytes = 31 }

unfoldable pub areas : Layout
areas = record {
  lead = leads asked (head_of 72 92 2);
  kind = λ vs. 0;
  least = 31;
  most = 31;
  seal = false;
  fmt = area;
}

-- a record's values up to the shape's number, in bit order, in front of others
abbrev pub headed : Area → ℕ → List ℕ → List ℕ
headed r t l = 6 ∷ r.repeat ∷ r.source ∷ r.sequence ∷ r.destination ∷ r.resent ∷ 0 ∷ 412 ∷ 11 ∷ r.kind ∷ t ∷ l

-- all of them, with the numbers of its times
unfoldable pub values_as : Area → ℕ → ℕ → List ℕ
values_as r t u = headed r (type_of (shape_kind r.shape)) (shape_values r.shape (t ∷ u ∷ r.advice ∷ 0 ∷ []))

abbrev pub values_of : Area → List ℕ
values_of r = values_as r (spell_time r.time) (spell_short r.second_time)

unfoldable pub record_of : List ℕ → Area
record_of vs = record {
  repeat = get_or vs 1 0;
  source = get_or vs 2 0;
  sequence = get_or vs 3 0;
  destination = get_or vs 4 0;
  resent = get_or vs 5 0;
  kind = get_or vs 9 0;
  shape = shape_of (kind_of (get_or vs 10 0)) vs;
  time = time_of (get_or vs 15 0);
  second_time = short_of (get_or vs 16 0);
  advice = get_or vs 17 0;
}
