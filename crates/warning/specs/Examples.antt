-- A warning of each type, its bits laid down by hand from tables 56 and 58 to 62 of document 003: read as the record that the tables say, and written back as the same bytes; one corrected; and two refused by one number past its range.
use Rattle.std.specs.Prelude.{◌≡◌, refl, List, [], ◌∷◌, ℕ}
use Rattle.ais_common.specs.Lead.{told}
use Rattle.ais_common.specs.Time.{spell_time, time_of}
use Rattle.bits.specs.Bits.{bit, value_of, digits, bits_of, bytes_of, field_at}
use Rattle.format.specs.Fmt.{accepted, refused, read_field, read, write_field, write, spot}
use Rattle.format.specs.Message.{read_message, write_message, correct_message}
use Rattle.format.specs.Promises.{read_record}
use Rattle.format.specs.Words.{walk, wide}
use Rattle.warning.specs.Changed.{field_of}
use Rattle.warning.specs.Warning.{warning, warnings, values_as, values_of, record_as, record_of}
use Rattle.warning.specs.declared.bodies.Body.{Body}
use Rattle.warning.specs.declared.bodies.Body.TheVariants.{Cyclone, Gale, Waves, Fog, Surge}
use Rattle.warning.specs.declared.reading.Warning.{Warning}

-- what all of them say: repeat 2, from 413526798, at 121°30.537' E, 30°12.345' N; 23 November, 6:47, for 36 hours
abbrev warned : Body → Warning
warned body = record {
  repeat = 2;
  source = 413_526_798;
  longitude = 3_690_537;
  latitude = 4_812_345;
  body = body;
  time = record { month = 11; day = 23; hour = 6; minute = 47 };
  hours = 36;
}

-- the bytes are read as a warning with that body, and it is written as these bytes
abbrev Stands : List ℕ → Body → Type 0
Stands s body = (read_record warnings record_of s ≡ accepted (warned body)) × (write_message warnings (values_of (warned body)) ≡ accepted s)

-- table 58: a severe tropical storm (3); force 8 within 301 km, force 10 within 142 km; it moves at 27 km/h to 295°; force 11; 965 hPa, which is 165 from 800 on
cyclone_stands : Stands (0x22 ∷ 0x62 ∷ 0x97 ∷ 0xAC ∷ 0x38 ∷ 0x67 ∷ 0x03 ∷ 0x17 ∷ 0x0A ∷ 0x05 ∷ 0x32 ∷ 0x5B ∷ 0x8E ∷ 0x5C ∷ 0xB5 ∷ 0x1C ∷ 0xDC ∷ 0x9D ∷ 0x6A ∷ 0x5B ∷ 0xB9 ∷ 0xAF ∷ 0x90 ∷ []) (Cyclone (record { kind = 3; gale_radius = 301; storm_radius = 142; speed = 27; direction = 295; force = 11; pressure = 165 }))
unfolding read_message write_message warnings told warning read read_field write write_field walk wide record_as time_of values_as spell_time field_at value_of bit digits bits_of bytes_of
cyclone_stands = (refl, refl)

-- table 59: 213 nautical miles around, force 7 to 10, from the north-west (6), or from the direction given
abbrev gale_from : ℕ → Body
gale_from direction = Gale (record { radius = 213; least = 7; greatest = 10; direction = direction })

gale_stands : Stands (0x22 ∷ 0x62 ∷ 0x97 ∷ 0xAC ∷ 0x38 ∷ 0x67 ∷ 0x03 ∷ 0x27 ∷ 0x0A ∷ 0x05 ∷ 0x32 ∷ 0x5B ∷ 0x8E ∷ 0x75 ∷ 0x4E ∷ 0xA6 ∷ 0x00 ∷ 0x00 ∷ 0x00 ∷ 0x0B ∷ 0xB9 ∷ 0xAF ∷ 0x90 ∷ []) (gale_from 6)
unfolding read_message write_message warnings told warning read read_field write write_field walk wide record_as time_of values_as spell_time field_at value_of bit digits bits_of bytes_of
gale_stands = (refl, refl)

-- the direction stands at bit 124
gale_refused : write_message warnings (values_of (warned (gale_from 9))) ≡ refused 4 124
unfolding write_message warnings warning values_as spell_time write write_field walk wide value_of bit digits
gale_refused = refl

-- table 60: 187 km around, 9 m high, every 2,765 seconds
waves_stand : Stands (0x22 ∷ 0x62 ∷ 0x97 ∷ 0xAC ∷ 0x38 ∷ 0x67 ∷ 0x03 ∷ 0x37 ∷ 0x0A ∷ 0x05 ∷ 0x32 ∷ 0x5B ∷ 0x8E ∷ 0x6E ∷ 0xD2 ∷ 0xAC ∷ 0xD0 ∷ 0x00 ∷ 0x00 ∷ 0x0B ∷ 0xB9 ∷ 0xAF ∷ 0x90 ∷ []) (Waves (record { radius = 187; height = 9; period = 2_765 }))
unfolding read_message write_message warnings told warning read read_field write write_field walk wide record_as time_of values_as spell_time field_at value_of bit digits bits_of bytes_of
waves_stand = (refl, refl)

-- table 61: 342 km around, 3.7 nautical miles, or what is given
abbrev fog_seen : ℕ → Body
fog_seen visibility = Fog (record { radius = 342; visibility = visibility })

fog_stands : Stands (0x22 ∷ 0x62 ∷ 0x97 ∷ 0xAC ∷ 0x38 ∷ 0x67 ∷ 0x03 ∷ 0x47 ∷ 0x0A ∷ 0x05 ∷ 0x32 ∷ 0x5B ∷ 0x8E ∷ 0x6A ∷ 0xC4 ∷ 0xA0 ∷ 0x00 ∷ 0x00 ∷ 0x00 ∷ 0x0B ∷ 0xB9 ∷ 0xAF ∷ 0x90 ∷ []) (fog_seen 37)
unfolding read_message write_message warnings told warning read read_field write write_field walk wide record_as time_of values_as spell_time field_at value_of bit digits bits_of bytes_of
fog_stands = (refl, refl)

-- more than 25.0 nautical miles; the visibility stands at bit 115
fog_refused : write_message warnings (values_of (warned (fog_seen 251))) ≡ refused 4 115
unfolding write_message warnings warning values_as spell_time write write_field walk wide value_of bit digits
fog_refused = refl

-- table 62: 418 nautical miles around, the water rises by 263 cm to a tide of 709 cm, every 3,141 seconds
abbrev surging : List ℕ
surging = 0x22 ∷ 0x62 ∷ 0x97 ∷ 0xAC ∷ 0x38 ∷ 0x67 ∷ 0x03 ∷ 0x57 ∷ 0x0A ∷ 0x05 ∷ 0x32 ∷ 0x5B ∷ 0x8E ∷ 0x74 ∷ 0x50 ∷ 0x7B ∷ 0x15 ∷ 0x88 ∷ 0xA0 ∷ 0x0B ∷ 0xB9 ∷ 0xAF ∷ 0x90 ∷ []

surge_stands : Stands surging (Surge (record { radius = 418; rise = 263; tide = 709; period = 3_141 }))
unfolding read_message write_message warnings told warning read read_field write write_field walk wide record_as time_of values_as spell_time field_at value_of bit digits bits_of bytes_of
surge_stands = (refl, refl)

-- its tide, the third number of its body, is corrected to 386 cm
tide_corrected : correct_message warnings surging (field_of (field_at surging 56 4) 25) 386 ≡ accepted (0x22 ∷ 0x62 ∷ 0x97 ∷ 0xAC ∷ 0x38 ∷ 0x67 ∷ 0x03 ∷ 0x57 ∷ 0x0A ∷ 0x05 ∷ 0x32 ∷ 0x5B ∷ 0x8E ∷ 0x74 ∷ 0x50 ∷ 0x76 ∷ 0x09 ∷ 0x88 ∷ 0xA0 ∷ 0x0B ∷ 0xB9 ∷ 0xAF ∷ 0x90 ∷ [])
unfolding correct_message read_message write_message warnings told warning read read_field write write_field walk wide field_at value_of bit digits bits_of bytes_of spot
tide_corrected = refl
