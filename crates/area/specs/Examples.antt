-- A circle and a rectangle, their bits laid down by hand from tables 38 to 40 of document 003: read as the record that the tables say, written back as the same bytes, corrected; and the bounds of a longitude.
use Rattle.std.specs.Prelude.{◌≡◌, refl, List, [], ◌∷◌, ℕ, pos, negsuc, take, set}
use Rattle.ais_common.specs.Lead.{told}
use Rattle.bits.specs.Bits.{bit, value_of, digits, bits_of, bytes_of, field_at}
use Rattle.walk.specs.Sign.{int_of, spell_of}
use Rattle.format.specs.Fmt.{accepted, refused, read_field, read, write_field, write, spot}
use Rattle.format.specs.Message.{told as refusal, read_message, write_message, correct_message}
use Rattle.format.specs.Promises.{read_record}
use Rattle.format.specs.Refusals.{bare}
use Rattle.format.specs.Words.{walk, wide}
use Rattle.ais_common.specs.Time.{spell_time, time_of, spell_short, short_of}
use Rattle.area.specs.Area.{area, areas, values_as, values_of, record_of}
use Rattle.area.specs.Changed.{field_of}
use Rattle.area.specs.declared.reading.Area.{Area}
use Rattle.area.specs.declared.reading.shapes.Shape.{Shape}
use Rattle.area.specs.declared.reading.shapes.Shape.TheVariants.{Circle, Rectangle}

-- table 39: 9.3 nautical miles around 121°30.5678' E, 31°14.2513' N
abbrev round : List ℕ
round =
    0x1A ∷ 0x62 ∷ 0x97 ∷ 0xAC ∷ 0x39 ∷ 0x62 ∷ 0x3F ∷ 0xD4 ∷ 0xFE ∷ 0x67 ∷ 0x0B ∷ 0xB5 ∷ 0x16 ∷ 0x1C ∷ 0xF3 ∷ 0x88
    ∷ 0xEF ∷ 0xE7 ∷ 0x8D ∷ 0xD0 ∷ 0x00 ∷ 0x00 ∷ 0x00 ∷ 0x00 ∷ 0x00 ∷ 0x07 ∷ 0xEC ∷ 0xB5 ∷ 0x86 ∷ 0xD5 ∷ 0x40 ∷ []

abbrev eastward : ℕ → Shape
eastward n = Circle (record { longitude = pos n; latitude = pos 18_742_513; radius = 93 })

-- table 38: repeat 2, from 413526798, number 1 in sequence, to 412087615; from 29 July, 18:53, to 13 August, 21 hours; sent again or not, the kind of area and the advice as given
abbrev at_sea : (resent kind advice : ℕ) → Shape → Area
at_sea resent kind advice x = record {
  repeat = 2;
  source = 413_526_798;
  sequence = 1;
  destination = 412_087_615;
  resent = resent;
  kind = kind;
  shape = x;
  time = record { month = 7; day = 29; hour = 18; minute = 53 };
  second_time = record { month = 8; day = 13; hour = 21 };
  advice = advice;
}

-- where mud is dumped (11): no ship may sail there (5)
abbrev dumped : ℕ → Area
dumped n = at_sea 1 11 5 (eastward n)

circle_read : read_record areas record_of round ≡ accepted (dumped 72_905_678)
unfolding read_message areas told area read read_field walk wide record_of int_of time_of short_of field_at value_of bit digits bits_of
circle_read = refl

circle_back : write_message areas (values_of (dumped 72_905_678)) ≡ accepted round
unfolding write_message areas area write write_field walk wide values_as spell_of spell_time spell_short value_of bit digits bytes_of
circle_back = refl

-- 180° is good and what stands past it is not, but for 181°, which means none
circle_far : refusal (write_message areas (values_of (dumped 108_000_000))) ≡ bare 0
unfolding write_message areas area write write_field walk wide values_as spell_of spell_time spell_short value_of bit digits bytes_of
circle_far = refl

circle_past : write_message areas (values_of (dumped 108_000_001)) ≡ refused 4 94
unfolding write_message areas area write write_field walk wide values_as spell_of spell_time spell_short value_of bit digits
circle_past = refl

circle_none : refusal (write_message areas (values_of (dumped 108_600_000))) ≡ bare 0
unfolding write_message areas area write write_field walk wide values_as spell_of spell_time spell_short value_of bit digits bytes_of
circle_none = refl

-- the shape is tested before the size, and both before any field
circle_cut : (read_message areas (take 30 round) ≡ refused 1 0) × (read_message areas (set (take 30 round) 11 0xB1) ≡ refused 2 0) × (read_message areas (take 22 round) ≡ refused 1 0)
unfolding read_message areas told field_at value_of bit digits bits_of
circle_cut = (refl, refl, refl)

-- table 40: from 5°00.0123' W, 10°59.4321' S to 4°17.6789' E and no latitude, which is 91°
abbrev cornered : List ℕ
cornered =
    0x1A ∷ 0x62 ∷ 0x97 ∷ 0xAC ∷ 0x39 ∷ 0x62 ∷ 0x3F ∷ 0xD4 ∷ 0xFC ∷ 0x67 ∷ 0x0B ∷ 0x6B ∷ 0xF4 ∷ 0x8E ∷ 0x31 ∷ 0x7C
    ∷ 0xDB ∷ 0x07 ∷ 0x78 ∷ 0x13 ∷ 0xA8 ∷ 0xCA ∷ 0xB4 ∷ 0x12 ∷ 0x14 ∷ 0x07 ∷ 0xEC ∷ 0xB5 ∷ 0x86 ∷ 0xD4 ∷ 0xC0 ∷ []

-- where soldiers are trained (6): no ship may anchor there (3)
abbrev trained : Area
trained = at_sea 0 6 3 (Rectangle (record { longitude = negsuc 3_000_122; latitude = negsuc 6_594_320; second_longitude = pos 2_576_789; second_latitude = pos 54_600_000 }))

rectangle_read : read_record areas record_of cornered ≡ accepted trained
unfolding read_message areas told area read read_field walk wide record_of int_of time_of short_of field_at value_of bit digits bits_of
rectangle_read = refl

rectangle_back : write_message areas (values_of trained) ≡ accepted cornered
unfolding write_message areas area write write_field walk wide values_as spell_of spell_time spell_short value_of bit digits bytes_of
rectangle_back = refl

-- a rectangle has no radius, and a second latitude, here corrected to 12°34.0567' N
rectangle_radius : correct_message areas cornered (field_of (field_at cornered 92 2) 12) 26 ≡ refused 10 0
unfolding correct_message read_message areas told area read read_field walk wide spot field_at value_of bit digits bits_of
rectangle_radius = refl

rectangle_corrected : correct_message areas cornered (field_of (field_at cornered 92 2) 14) 7_540_567
    ≡ accepted (
    0x1A ∷ 0x62 ∷ 0x97 ∷ 0xAC ∷ 0x39 ∷ 0x62 ∷ 0x3F ∷ 0xD4 ∷ 0xFC ∷ 0x67 ∷ 0x0B ∷ 0x6B ∷ 0xF4 ∷ 0x8E ∷ 0x31 ∷ 0x7C
    ∷ 0xDB ∷ 0x07 ∷ 0x78 ∷ 0x13 ∷ 0xA8 ∷ 0xCA ∷ 0x87 ∷ 0x30 ∷ 0xF5 ∷ 0x77 ∷ 0xEC ∷ 0xB5 ∷ 0x86 ∷ 0xD4 ∷ 0xC0 ∷ [])
unfolding correct_message read_message write_message areas told area read read_field write write_field walk wide spot field_at value_of bit digits bits_of bytes_of
rectangle_corrected = refl

-- a circle has a radius, here corrected to 5.8 nautical miles
circle_radius : correct_message areas round (field_of (field_at round 92 2) 12) 58 ≡ accepted (set (set round 18 0x8B) 19 0xA0)
unfolding correct_message read_message write_message areas told area read read_field write write_field walk wide spot field_at value_of bit digits bits_of bytes_of
circle_radius = refl
