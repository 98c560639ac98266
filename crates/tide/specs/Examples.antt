-- Tide telegrams, their bits laid down by hand from document 000, 5.4.2 and tables 6, 8 and B.1: read as the record and the numbers that the tables say, written back as the same bytes, their heights, the longest ones, corrections, refusals that this telegram alone has, and what a caller is told of refusals, number and bit.
use Rattle.std.specs.Prelude.{ℕ, zero, suc, ◌+◌, ◌*◌, ◌^◌, ◌≡◌, refl, cond, List, [], ◌∷◌, ◌++◌, ℤ, pos, neg_ℤ, take, length, set}
use Rattle.bits.specs.Bits.{bit, value_of, digits, bits_of, bytes_of, field_at}
use Rattle.format.specs.Codes.{codes, there, headed}
use Rattle.format.specs.Fmt.{Out, accepted, refused, also, after, read_field, read, write_field, sized, write, spot}
use Rattle.format.specs.Groups.{repeat, repeat_of, repeat_told}
use Rattle.format.specs.Message.{told, into, read_message, write_message, correct_message}
use Rattle.format.specs.Promises.{refused_by, plain, read_record}
use Rattle.format.specs.Words.{walk, wide}
use Rattle.format.specs.Refusals.{Verdict}
use Rattle.tide.specs.Heights.{heights_of}
use Rattle.tide.specs.HeightsPromises.{counted}
use Rattle.tide.specs.Limits.{most_numbers, most_heights}
use Rattle.tide.specs.Promises.{housed, told_of}
use Rattle.tide.specs.Record.{Whole, values_of, record_of}
use Rattle.tide.specs.Tide.{placed, tides}
use Rattle.tide.specs.WritingPromises.{enough}
use Rattle.tide.specs.declared.reading.Told.{Told}

-- table 6: next year or this, month, day, hour, minute
abbrev at : (year month day hour minute : ℕ) → ℕ
at year month day hour minute = (((year * 16 + month) * 32 + day) * 32 + hour) * 64 + minute

-- table 8: degrees, minutes and hundredths, north or east
abbrev angle : (degrees minutes hundredths : ℕ) → ℕ
angle degrees minutes hundredths = (degrees * 64 + minutes) * 128 + hundredths

-- n times the numbers l
unfoldable times : ℕ → List ℕ → List ℕ
times zero l = []
times (suc n) l = l ++ times n l

-- ---- one port, Shanghai (table B.1: 11), with one level observed: 187 cm on 16 November, 14:30

abbrev observed : Whole
observed = (record { count = 1 }, 0 ∷ 11 ∷ 0 ∷ 1 ∷ at 0 11 16 14 30 ∷ 1 ∷ 187 ∷ [])

abbrev observed_bytes : List ℕ
observed_bytes = 0xE4 ∷ 0x20 ∷ 0x08 ∷ 0xB0 ∷ 0x05 ∷ 0x70 ∷ 0x73 ∷ 0xD2 ∷ 0xEC ∷ []

observed_read : read_record tides record_of observed_bytes ≡ accepted observed
unfolding read_message tides headed codes there placed read read_field walk wide repeat record_of value_of bit digits bits_of bytes_of field_at
observed_read = refl

observed_written : write_message tides (values_of observed) ≡ accepted observed_bytes
unfolding write_message tides headed codes placed write write_field sized walk wide repeat repeat_of repeat_told values_of value_of bit digits bits_of bytes_of
observed_written = refl

-- ---- a point, N 31°14.50' E 121°29.25', with two levels forecast: 12 cm on 2 January of next year, 5:06, and −305 cm the same day, 11:45

abbrev forecast : Whole
forecast = (record { count = 1 }, 1 ∷ angle 31 14 50 ∷ angle 121 29 25 ∷ 1 ∷ 2 ∷ at 1 1 2 5 6 ∷ 1 ∷ 12 ∷ at 1 1 2 11 45 ∷ 0 ∷ 305 ∷ [])

abbrev forecast_bytes : List ℕ
forecast_bytes =
    0xE4 ∷ 0x20 ∷ 0x0C ∷ 0x7C ∷ 0xE6 ∷ 0x47 ∷ 0x97 ∷ 0x4C ∷ 0xC0 ∷ 0x51 ∷ 0x11 ∷ 0x46 ∷ 0x81 ∷ 0x91 ∷ 0x12 ∷ 0xED ∷ 0x26 ∷ 0x20 ∷ []

forecast_read : read_record tides record_of forecast_bytes ≡ accepted forecast
unfolding read_message tides headed codes there placed read read_field walk wide repeat record_of value_of bit digits bits_of bytes_of field_at
forecast_read = refl

forecast_written : write_message tides (values_of forecast) ≡ accepted forecast_bytes
unfolding write_message tides headed codes placed write write_field sized walk wide repeat repeat_of repeat_told values_of value_of bit digits bits_of bytes_of
forecast_written = refl

forecast_heights : heights_of 1 forecast.1 ≡ pos 12 ∷ neg_ℤ (pos 305) ∷ []
unfolding repeat_of repeat_told
forecast_heights = refl

-- ---- the longest: the same point with fifty such levels, 1,675 bits and a fill of five, so 210 bytes

abbrev longest : Whole
longest = (record { count = 1 }, 1 ∷ angle 31 14 50 ∷ angle 121 29 25 ∷ 1 ∷ 50 ∷ times 50 (at 1 1 2 5 6 ∷ 1 ∷ 12 ∷ []))

abbrev longest_bytes : List ℕ
longest_bytes =
    0xE4 ∷ 0x20 ∷ 0x0C ∷ 0x7C ∷ 0xE6 ∷ 0x47 ∷ 0x97 ∷ 0x4C ∷ 0xC6 ∷ 0x51 ∷ (times 49 (0x11 ∷ 0x46 ∷ 0x81 ∷ 0x91 ∷ []) ++ (0x11 ∷ 0x46 ∷ 0x81 ∷ 0x80 ∷ []))

longest_read : read_record tides record_of longest_bytes ≡ accepted longest
unfolding times read_message tides headed codes there placed read read_field walk wide repeat record_of value_of bit digits bits_of bytes_of field_at
longest_read = refl

longest_written : write_message tides (values_of longest) ≡ accepted longest_bytes
unfolding times write_message tides headed codes placed write write_field sized walk wide repeat repeat_of repeat_told values_of value_of bit digits bits_of bytes_of
longest_written = refl

-- fifty-one make 214 bytes: 1, when all fields were good
longer_refused : write_message tides (values_of (record { count = 1 }, 1 ∷ angle 31 14 50 ∷ angle 121 29 25 ∷ 1 ∷ 51 ∷ times 51 (at 1 1 2 5 6 ∷ 1 ∷ 12 ∷ []))) ≡ refused 1 0
unfolding times write_message tides headed codes placed write write_field sized walk wide repeat repeat_of repeat_told values_of value_of bit digits bits_of bytes_of
longer_refused = refl

-- ---- the most levels: one port with fifty-one; and the most numbers: thirty-three ports, the last with two levels. Each is 1,670 bits, 209 bytes

abbrev most_levels : Whole
most_levels = (record { count = 1 }, 0 ∷ 11 ∷ 0 ∷ most_heights ∷ times most_heights (at 0 11 16 14 30 ∷ 1 ∷ 187 ∷ []))

most_levels_many : length (heights_of 1 most_levels.1) ≡ most_heights
unfolding times repeat_of repeat_told
most_levels_many = refl

most_levels_written : also length (write_message tides (values_of most_levels)) ≡ accepted 209
unfolding times write_message tides headed codes placed write write_field sized walk wide repeat repeat_of repeat_told values_of value_of bit digits bits_of bytes_of
most_levels_written = refl

most_levels_read : after (write_message tides (values_of most_levels)) (read_record tides record_of) ≡ accepted most_levels
unfolding times read_message write_message tides headed codes there placed read read_field write write_field sized walk wide repeat repeat_of repeat_told values_of record_of value_of bit digits bits_of bytes_of field_at
most_levels_read = refl

abbrev most_row : Whole
most_row = (record { count = 33 }, times 32 (0 ∷ 11 ∷ 0 ∷ 1 ∷ at 0 11 16 14 30 ∷ 1 ∷ 187 ∷ []) ++ (0 ∷ 15 ∷ 0 ∷ 2 ∷ times 2 (at 0 11 16 14 30 ∷ 1 ∷ 187 ∷ [])))

most_row_many : length most_row.1 ≡ most_numbers
unfolding times
most_row_many = refl

most_row_written : also length (write_message tides (values_of most_row)) ≡ accepted 209
unfolding times write_message tides headed codes placed write write_field sized walk wide repeat repeat_of repeat_told values_of value_of bit digits bits_of bytes_of
most_row_written = refl

most_row_read : after (write_message tides (values_of most_row)) (read_record tides record_of) ≡ accepted most_row
unfolding times read_message write_message tides headed codes there placed read read_field write write_field sized walk wide repeat repeat_of repeat_told values_of record_of value_of bit digits bits_of bytes_of field_at
most_row_read = refl

-- ---- corrected: the port to Ningbo-Zhoushan (15), the second level's sign and value; and what may not be

port_corrected : correct_message tides observed_bytes 5 15 ≡ accepted (set observed_bytes 3 0xF0)
unfolding correct_message read_message write_message tides headed codes there placed read read_field write write_field sized spot walk wide repeat value_of bit digits bits_of bytes_of field_at
port_corrected = refl

sign_corrected : (correct_message tides forecast_bytes 13 1 ≡ accepted (set forecast_bytes 16 0xA6)) × (correct_message tides forecast_bytes 14 1 ≡ accepted (set (set forecast_bytes 16 0x00) 17 0x20))
unfolding correct_message read_message write_message tides headed codes there placed read read_field write write_field sized spot walk wide repeat value_of bit digits bits_of bytes_of field_at
sign_corrected = (refl, refl)

-- 0 behind sign 0 is refused at the value (bit 129); type, version, class, both counts and a position type stay
corrections_refused : (correct_message tides forecast_bytes 14 0 ≡ refused 4 129) × (correct_message tides forecast_bytes 3 1 ≡ refused 10 0) × (correct_message tides forecast_bytes 4 1 ≡ refused 10 0) × (correct_message tides forecast_bytes 8 2 ≡ refused 10 0)
unfolding correct_message read_message write_message tides headed codes there placed read read_field write write_field sized spot walk wide repeat value_of bit digits bits_of bytes_of field_at
corrections_refused = (refl, refl, refl, refl)

-- ---- sizes: 8 bytes of a telegram are 1, 211 zero bytes are 2 and behind good codes 1

sizes : (read_message tides (take 8 observed_bytes) ≡ refused 1 0) × (read_message tides (times 211 (0 ∷ [])) ≡ refused 2 0) × (read_message tides (0xE4 ∷ 0x20 ∷ times 209 (0 ∷ [])) ≡ refused 1 0)
unfolding times read_message tides headed codes there placed read read_field walk wide repeat value_of bit digits bits_of bytes_of field_at
sizes = (refl, refl, refl)

-- ---- refused: another class; no records; no entries; a time of zeros, at the month; minus nothing, at the value; a fill bit; a byte left over

refusals : (read_message tides (set observed_bytes 1 0x30) ≡ refused 2 0) × (read_message tides (set observed_bytes 2 0x00) ≡ refused 4 12) × (read_message tides (set observed_bytes 4 0x01) ≡ refused 4 29)
    × (read_message tides (set (set (set (set observed_bytes 4 0x04) 5 0x00) 6 0x00) 7 0x12) ≡ refused 4 39) × (read_message tides (set (set observed_bytes 7 0xC0) 8 0x00) ≡ refused 4 60)
    × (read_message tides (set observed_bytes 8 0xED) ≡ refused 5 70) × (read_message tides (observed_bytes ++ (0 ∷ [])) ≡ refused 1 72)
unfolding read_message tides headed codes there placed read read_field walk wide repeat value_of bit digits bits_of bytes_of field_at
refusals = (refl, refl, refl, refl, refl, refl, refl)

-- ---- what a caller is told of a refusal (paper 02, C-12): its number and the first bit of the field at fault, counted in the tables.
-- Type 0, version 8, class 11, count of records 12, and the first record from 21 on. With a port: position type 21, port 22, mark 28, count 29;
-- its entry: next year 38, month 39, day 43, hour 48, minute 53, sign 59, value 60; the fill 70. With a point: position type 21, north or south 22,
-- degrees 23, longitude 43, mark 65, count 66, the first entry 75, the second 107 with month 108, hour 117, sign 128 and value 129; the fill 139.

abbrev at_bit : (code bit : ℕ) → Verdict
at_bit code bit = record { code = code; bit = bit }

-- what the calls promise to answer: reading into a row of so many numbers, writing into so many zero bytes, correcting, heights
abbrev read_into : ℕ → List ℕ → Out Told
read_into room s = plain (also told_of (housed room (read_record tides record_of s)))

abbrev wrote_into : ℕ → Whole → Verdict
wrote_into room x = told (into (cond (enough x.0 x.1) (times room (0 ∷ [])) []) (write_message tides (values_of x)))

abbrev corrected_to : (i v : ℕ) → List ℕ → Verdict
corrected_to i v s = told (correct_message tides s i v)

abbrev heights_into : List ℤ → List ℕ → Out ℕ
heights_into row s = plain (counted s row)

-- no records; no entries; a month 0 and 13; a day 0; an hour 24; a minute 60; minus nothing; a fill bit that is not its first; a byte left over
fields_told : (read_into 7 (set observed_bytes 2 0x00) ≡ refused_by (at_bit 4 12)) × (read_into 7 (set observed_bytes 4 0x01) ≡ refused_by (at_bit 4 29))
    × (read_into 7 (set (set observed_bytes 4 0x04) 5 0x10) ≡ refused_by (at_bit 4 39)) × (read_into 7 (set observed_bytes 5 0xB0) ≡ refused_by (at_bit 4 39))
    × (read_into 7 (set observed_bytes 5 0x60) ≡ refused_by (at_bit 4 43)) × (read_into 7 (set observed_bytes 6 0xC3) ≡ refused_by (at_bit 4 48))
    × (read_into 7 (set (set observed_bytes 6 0x77) 7 0x92) ≡ refused_by (at_bit 4 53)) × (read_into 7 (set (set observed_bytes 7 0xC0) 8 0x00) ≡ refused_by (at_bit 4 60))
    × (read_into 7 (set observed_bytes 8 0xED) ≡ refused_by (at_bit 5 70)) × (read_into 7 (observed_bytes ++ (0 ∷ [])) ≡ refused_by (at_bit 1 72))
unfolding read_message tides headed codes there placed read read_field walk wide repeat record_of value_of bit digits bits_of bytes_of field_at
fields_told = (refl, refl, refl, refl, refl, refl, refl, refl, refl, refl)

-- of the point: 91 degrees; a month 0 behind an entry that is good; cut in the second value, before its sign, and in the hour before that
point_told_lem : (read_into 11 (set (set forecast_bytes 2 0x0D) 3 0x6C) ≡ refused_by (at_bit 4 23)) × (read_into 11 (set forecast_bytes 13 0x90) ≡ refused_by (at_bit 4 108))
    × (read_into 11 (take 17 forecast_bytes) ≡ refused_by (at_bit 1 129)) × (read_into 11 (take 16 forecast_bytes) ≡ refused_by (at_bit 1 128)) × (read_into 11 (take 15 forecast_bytes) ≡ refused_by (at_bit 1 117))
unfolding read_message tides headed codes there placed read read_field walk wide repeat record_of value_of bit digits bits_of bytes_of field_at
point_told_lem = (refl, refl, refl, refl, refl)

-- no field gave these: version 2; class 1; 8 bytes; no room in the row. The heights have reading's, and their own want of room
bare_told : (read_into 7 (set observed_bytes 1 0x40) ≡ refused_by (at_bit 2 0)) × (read_into 7 (set observed_bytes 1 0x30) ≡ refused_by (at_bit 2 0)) × (read_into 7 (take 8 observed_bytes) ≡ refused_by (at_bit 1 0))
    × (read_into 6 observed_bytes ≡ refused_by (at_bit 6 0)) × (heights_into (pos 0 ∷ []) (set (set observed_bytes 7 0xC0) 8 0x00) ≡ refused_by (at_bit 4 60)) × (heights_into [] observed_bytes ≡ refused_by (at_bit 6 0))
unfolding read_message tides headed codes there placed read read_field walk wide repeat record_of value_of bit digits bits_of bytes_of field_at repeat_of repeat_told
bare_told = (refl, refl, refl, refl, refl, refl)

-- written: no records and 512; 512 entries; a time of more than 21 bits, at its first; a month 13; a sign 2; a value 1,024; minus nothing; a buffer and a row that are too short
write_told : (wrote_into 9 (record { count = 0 }, observed.1) ≡ at_bit 4 12) × (wrote_into 9 (record { count = 512 }, observed.1) ≡ at_bit 4 12) × (wrote_into 9 (record { count = 1 }, set observed.1 3 512) ≡ at_bit 4 29)
    × (wrote_into 9 (record { count = 1 }, set observed.1 4 (2 ^ 21)) ≡ at_bit 4 38) × (wrote_into 9 (record { count = 1 }, set observed.1 4 (at 0 13 16 14 30)) ≡ at_bit 4 39)
    × (wrote_into 9 (record { count = 1 }, set observed.1 5 2) ≡ at_bit 4 59) × (wrote_into 9 (record { count = 1 }, set observed.1 6 1_024) ≡ at_bit 4 60) × (wrote_into 9 (record { count = 1 }, set (set observed.1 5 0) 6 0) ≡ at_bit 4 60)
    × (wrote_into 8 observed ≡ at_bit 6 0) × (wrote_into 9 (record { count = 1 }, take 6 observed.1) ≡ at_bit 6 0)
unfolding times write_message tides headed codes placed write write_field sized walk wide repeat repeat_of repeat_told values_of value_of bit digits bits_of bytes_of
write_told = (refl, refl, refl, refl, refl, refl, refl, refl, refl, refl)

-- corrected: the sign of a level of 0 made minus, at the value, which is not what was corrected; a value too wide, at its own; a time's month 13, and a time too wide; the count, which may not be; a telegram that is refused itself
correct_told : (corrected_to 9 0 (set (set observed_bytes 7 0xD0) 8 0x00) ≡ at_bit 4 60) × (corrected_to 10 1_024 observed_bytes ≡ at_bit 4 60) × (corrected_to 8 (at 0 13 16 14 30) observed_bytes ≡ at_bit 4 39)
    × (corrected_to 8 (2 ^ 21) observed_bytes ≡ at_bit 4 38) × (corrected_to 7 2 observed_bytes ≡ at_bit 10 0) × (corrected_to 5 15 (set observed_bytes 2 0x00) ≡ at_bit 4 12)
unfolding correct_message read_message write_message tides headed codes there placed read read_field write write_field sized spot walk wide repeat value_of bit digits bits_of bytes_of field_at
correct_told = (refl, refl, refl, refl, refl, refl)
