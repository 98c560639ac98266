-- The distress report (paper 01, "Distress report"). Assumes nothing.
use Rattle.std.specs.Prelude.{ℕ, ◌^◌, ◌<◌, ◌≡◌, refl, false, List, [], ◌∷◌, eqb, length, get_or}
use Rattle.std.proofs.Common.{lit≤}
use Rattle.bits.specs.Bits.{field_at}
use Rattle.format.specs.Fmt.{Fmt, end}
use Rattle.format.specs.Message.{Layout, led, between}
use Rattle.walk.specs.Sign.{int_of, spell_of}
use Rattle.format.specs.Words.{◌‥◌, signed, ◌▹◌, num, code, fill}
use Rattle.format.specs.Laws.Extent.{Plain, span}
use Rattle.walk.specs.Laws.Sign.{int_spell}
use Rattle.distress.specs.declared.reading.Report.{Report}

unfoldable pub report : Fmt
report =
    code 16 0xBDC1
    ▹ num 32 (0 ‥ 999_999_999)  -- MMSI
    ▹ num 25 (signed 25 10_800_000 10_860_000)  -- longitude, thousandths of a minute
    ▹ num 24 (signed 24 5_400_000 5_460_000)  -- latitude
    ▹ num 5 (0 ‥ 31)  -- day, 0 none
    ▹ num 5 (0 ‥ 24)  -- hour, 24 none
    ▹ num 6 (0 ‥ 60)  -- minute, 60 none
    ▹ num 7 (0 ‥ 126)  -- speed
    ▹ num 9 (0 ‥ 360)  -- course, 360 none
    ▹ num 4 (0 ‥ 9)  -- type, 0 none
    ▹ fill 3
    ▹ end

-- 17 bytes, 0xBDC1 in front (else 2)
unfoldable pub reports : Layout
reports = record {
  lead = led 17 (λ s. eqb (field_at s 0 16) 0xBDC1) (λ s. between 17 17 (length s));
  kind = λ vs. 0;
  least = 17;
  most = 17;
  seal = false;
  fmt = report;
}

-- a record's values, in bit order
unfoldable pub values_of : Report → List ℕ
values_of r =
    0xBDC1
    ∷ r.mmsi
    ∷ spell_of (2 ^ 25) r.longitude
    ∷ spell_of (2 ^ 24) r.latitude
    ∷ r.day
    ∷ r.hour
    ∷ r.minute
    ∷ r.speed
    ∷ r.course
    ∷ r.kind
    ∷ 0
    ∷ []

unfoldable pub report_of : List ℕ → Report
report_of vs = record {
  mmsi = get_or vs 1 0;
  longitude = int_of (2 ^ 25) (get_or vs 2 0);
  latitude = int_of (2 ^ 24) (get_or vs 3 0);
  day = get_or vs 4 0;
  hour = get_or vs 5 0;
  minute = get_or vs 6 0;
  speed = get_or vs 7 0;
  course = get_or vs 8 0;
  kind = get_or vs 9 0;
}

-- a record whose position fits its bits is that of its values
pub again : (r : Report) → spell_of (2 ^ 25) r.longitude < 2 ^ 25 → spell_of (2 ^ 24) r.latitude < 2 ^ 24 → report_of (values_of r) ≡ r
unfolding values_of report_of
again r e n =
    let east = int_spell (2 ^ 25) r.longitude (lit≤ tt) refl e in
    let north = int_spell (2 ^ 24) r.latitude (lit≤ tt) refl n in
    λ i. record {
      mmsi = r.mmsi;
      longitude = east i;
      latitude = north i;
      day = r.day;
      hour = r.hour;
      minute = r.minute;
      speed = r.speed;
      course = r.course;
      kind = r.kind;
    }

-- the report has 136 bits, no kind to test and no seal
pub plain : Plain reports 17
unfolding reports report span
plain = record { bare = refl; kindless = λ vs. refl; even = refl; spans = refl; sized = refl }
