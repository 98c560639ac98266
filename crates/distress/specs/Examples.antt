-- The report of paper 01's case C (crate numbers_to_stand_by) with all of its fields, and where a longitude past its range is refused; and one in the south-west, laid down by hand from document 001, table A.1, read, written and corrected.
use Rattle.std.specs.Prelude.{◌≡◌, refl, List, [], ◌∷◌, ℕ, pos, negsuc, set}
use Rattle.bits.specs.Bits.{bit, value_of, digits, bits_of, bytes_of, field_at}
use Rattle.format.specs.Fmt.{accepted, refused, read_field, read, write_field, write, spot}
use Rattle.format.specs.Message.{read_message, write_message, correct_message}
use Rattle.format.specs.Promises.{read_record}
use Rattle.walk.specs.Sign.{int_of, spell_of}
use Rattle.format.specs.Words.{walk}
use Rattle.distress.specs.Report.{report, reports, values_of, report_of}
use Rattle.distress.specs.declared.reading.Report.{Report}

-- `bdc1075bcd15385c8780d1ba258c8a16c0`
abbrev message : List ℕ
message = 0xbd ∷ 0xc1 ∷ 0x07 ∷ 0x5b ∷ 0xcd ∷ 0x15 ∷ 0x38 ∷ 0x5c ∷ 0x87 ∷ 0x80 ∷ 0xd1 ∷ 0xba ∷ 0x25 ∷ 0x8c ∷ 0x8a ∷ 0x16 ∷ 0xc0 ∷ []

-- its record, at any longitude
abbrev eastward : ℕ → Report
eastward n = record { mmsi = 123_456_789; longitude = pos n; latitude = pos 107_380; day = 9; hour = 12; minute = 25; speed = 10; course = 45; kind = 8 }

written : write_message reports (values_of (eastward 7_387_407)) ≡ accepted message
unfolding write_message reports report write write_field walk values_of spell_of value_of bit digits bytes_of
written = refl

-- at the longitude's first bit
too_far : write_message reports (values_of (eastward 10_800_001)) ≡ refused 4 48
unfolding write_message reports report write write_field walk values_of spell_of value_of bit digits
too_far = refl

-- MMSI 413526798 at W 71°17.639', S 33°05.274', on the 23rd at 6:47, 98 knots, course 295°, damaged by a storm (5)
abbrev stormy : Report
stormy = record { mmsi = 413_526_798; longitude = negsuc 4_277_638; latitude = negsuc 1_985_273; day = 23; hour = 6; minute = 47; speed = 98; course = 295; kind = 5 }

abbrev distressed : List ℕ
distressed = 0xBD ∷ 0xC1 ∷ 0x18 ∷ 0xA5 ∷ 0xEB ∷ 0x0E ∷ 0xDF ∷ 0x5D ∷ 0x3C ∷ 0xF0 ∷ 0xDA ∷ 0x83 ∷ 0x5C ∷ 0xD7 ∷ 0xE2 ∷ 0x93 ∷ 0xA8 ∷ []

storm_read : read_record reports report_of distressed ≡ accepted stormy
unfolding read_message reports report read read_field walk report_of int_of field_at value_of bit digits bits_of
storm_read = refl

storm_written : write_message reports (values_of stormy) ≡ accepted distressed
unfolding write_message reports report write write_field walk values_of spell_of value_of bit digits bytes_of
storm_written = refl

-- its longitude, field 2, is corrected to W 70°41.208', which 25 bits spell as 2^25 less 4,241,208
longitude_corrected : correct_message reports distressed 2 29_313_224 ≡ accepted (set (set (set distressed 7 0xA4) 8 0x64) 9 0x70)
unfolding correct_message read_message write_message reports report read read_field write write_field spot walk field_at value_of bit digits bits_of bytes_of
longitude_corrected = refl
