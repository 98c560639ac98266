-- A notice with an area of each kind, its bits laid down by hand from document 000, 5.2.2.3 and tables 1 to 9: read as the record, the numbers and the text that the tables say, written back as the same bytes, and corrected; and at which bit it is refused with one field spoiled, by the bits that the picture in docs/ARCHITECTURE.md has.
use Rattle.std.specs.Prelude.{◌≡◌, refl, true, List, [], ◌∷◌, ◌++◌, ℕ, ◌+◌, ◌*◌, set}
use Rattle.bits.specs.Bits.{bit, value_of, digits, bits_of, bytes_of}
use Rattle.format.specs.Fmt.{accepted, refused, read_field, read, write_field, sized, write, spot}
use Rattle.format.specs.Message.{told, read_message, write_message, correct_message}
use Rattle.format.specs.Promises.{read_record}
use Rattle.format.specs.Words.{walk, wide, or_zero}
use Rattle.format.specs.Groups.{repeat, repeat_of, repeat_told}
use Rattle.notice_fields.specs.Parts.{subtypes, subtype}
use Rattle.text.specs.Text.{english, in_language}
use Rattle.notice.specs.Notice.{ours, notice, notices}
use Rattle.notice.specs.Record.{Whole, values_of, head_of, text_of, record_of}

-- table 8: degrees, minutes and hundredths, below the mark of south or west
abbrev angle : (degrees minutes hundredths : ℕ) → ℕ
angle degrees minutes hundredths = (degrees * 64 + minutes) * 128 + hundredths

abbrev S : ℕ → ℕ
S v = 0x10_0000 + v

abbrev W : ℕ → ℕ
W v = 0x20_0000 + v

-- table 7, 0: the sea area of a code
abbrev sea_area : ℕ → List ℕ
sea_area code = 0 ∷ code ∷ []

-- 1: one point, N 31°12.57' E 121°30.84'
abbrev one_point : List ℕ
one_point = 1 ∷ 1 ∷ angle 31 12 57 ∷ angle 121 30 84 ∷ []

-- 2: a line from S 7°45.03' W 179°58.91' to N 89°06.30' E 4°17.08'
abbrev line : List ℕ
line = 2 ∷ 2 ∷ S (angle 7 45 3) ∷ W (angle 179 58 91) ∷ angle 89 6 30 ∷ angle 4 17 8 ∷ []

-- 3, and table 9: a circle around S 12°34.56' E 98°07.65', its radius in nautical miles (2)
abbrev circle : ℕ → List ℕ
circle radius = 3 ∷ S (angle 12 34 56) ∷ angle 98 7 65 ∷ radius ∷ 2 ∷ []

-- 4: a polygon of N 20°41.19' E 110°25.73', N 21°03.52' with a longitude, and S 0°14.96' W 3°59.27'
abbrev polygon : ℕ → List ℕ
polygon longitude = 4 ∷ 3 ∷ angle 20 41 19 ∷ angle 110 25 73 ∷ angle 21 3 52 ∷ longitude ∷ S (angle 0 14 96) ∷ W (angle 3 59 27) ∷ []

-- tables 1 to 6: from the Guangdong maritime office (13), sent from Shanghai (2), number 4,321 of 2026; a navigational warning (4) of an area (11), until 27 March of next year, 14:52; five areas; the text `Keep 2 nm off`
abbrev warned : Whole
warned = (
  record { source = 13; station = 2; serial = 4_321; year = 26; kind = 4; subtype = 11; expiry = (((1 * 16 + 3) * 32 + 27) * 32 + 14) * 64 + 52; count = 5 },
  (
    sea_area 157 ++ (one_point ++ (line ++ (circle 607 ++ polygon (angle 112 50 38)))),
    0x4B ∷ 0x65 ∷ 0x65 ∷ 0x70 ∷ 0x20 ∷ 0x32 ∷ 0x20 ∷ 0x6E ∷ 0x6D ∷ 0x20 ∷ 0x6F ∷ 0x66 ∷ 0x66 ∷ [],
  ),
)

abbrev message : List ℕ
message =
    0x69 ∷ 0x21 ∷ 0xC2 ∷ 0x69 ∷ 0x2E ∷ 0x7B ∷ 0x76 ∷ 0x8A ∷ 0x27 ∷ 0x48 ∷ 0x8F ∷ 0x98 ∷ 0xE4 ∷ 0xF2 ∷ 0xF5 ∷ 0x44 ∷ 0x50 ∷ 0xF6 ∷ 0x83 ∷ 0xD9
    ∷ 0xF5 ∷ 0x6D ∷ 0x64 ∷ 0x63 ∷ 0xC0 ∷ 0x44 ∷ 0x44 ∷ 0x38 ∷ 0xC8 ∷ 0x9C ∷ 0x18 ∷ 0x87 ∷ 0x83 ∷ 0x2F ∷ 0xD0 ∷ 0xC5 ∷ 0x29 ∷ 0x26 ∷ 0x6E ∷ 0x66
    ∷ 0x48 ∷ 0xA8 ∷ 0x6D ∷ 0x0E ∷ 0x19 ∷ 0x26 ∷ 0x80 ∷ 0x3B ∷ 0x04 ∷ 0x0F ∷ 0xB3 ∷ 0x69 ∷ 0x6C ∷ 0xAC ∷ 0xAE ∷ 0x04 ∷ 0x06 ∷ 0x44 ∷ 0x0D ∷ 0xCD
    ∷ 0xA4 ∷ 0x0D ∷ 0xEC ∷ 0xCC ∷ 0xC0 ∷ []

all_read : read_record (notices (ours true)) record_of message ≡ accepted warned
unfolding read_message notices notice read read_field walk wide or_zero subtypes subtype repeat in_language english head_of text_of record_of value_of bit digits bits_of bytes_of
all_read = refl

all_written : write_message (notices (ours true)) (values_of warned) ≡ accepted message
unfolding write_message notices notice write write_field sized walk wide or_zero subtypes subtype repeat repeat_of repeat_told in_language english values_of value_of bit digits bits_of bytes_of
all_written = refl

-- the sea area's code, field 9, is corrected to 74
code_corrected : correct_message (notices (ours true)) message 9 74 ≡ accepted (set (set message 8 0x12) 9 0x88)
unfolding correct_message read_message write_message notices notice read read_field write write_field sized spot walk wide or_zero subtypes subtype repeat in_language english value_of bit digits bits_of bytes_of
code_corrected = refl

-- the circle's radius, field 23, to 986
radius_corrected : correct_message (notices (ours true)) message 23 986 ≡ accepted (set (set message 33 0xED) 34 0x50)
unfolding correct_message read_message write_message notices notice read read_field write write_field sized spot walk wide or_zero subtypes subtype repeat in_language english value_of bit digits bits_of bytes_of
radius_corrected = refl

-- the longitude of the polygon's second point, field 30, to W 57°09.81'
longitude_corrected : correct_message (notices (ours true)) message 30 (W (angle 57 9 81)) ≡ accepted (set (set (set message 43 0x27) 44 0x24) 45 0xD1)
unfolding correct_message read_message write_message notices notice read read_field write write_field sized spot walk wide or_zero subtypes subtype repeat in_language english value_of bit digits bits_of bytes_of
longitude_corrected = refl

-- a kind and a count of points stay: the circle's and the polygon's
kind_kept : (correct_message (notices (ours true)) message 20 3 ≡ refused 10 0) × (correct_message (notices (ours true)) message 26 3 ≡ refused 10 0)
unfolding correct_message read_message write_message notices notice read read_field write write_field sized spot walk wide or_zero subtypes subtype repeat in_language english value_of bit digits bits_of bytes_of
kind_kept = (refl, refl)

-- ---- where it is refused

-- The head: a source of 0, at bit 0; a station of 0, at 5; month 13 in the expiry, behind the bit of next year at 38.
head_refused :
    (told (read_message (notices (ours true)) (set message 0 0x01)) ≡ record { code = 4; bit = 0 })
    × (told (read_message (notices (ours true)) (set message 0 0x68)) ≡ record { code = 4; bit = 5 })
    × (told (read_message (notices (ours true)) (set (set message 4 0x2F) 5 0xBB)) ≡ record { code = 4; bit = 39 })
unfolding read_message notices notice read read_field walk or_zero subtypes subtype value_of bit digits bits_of
head_refused = (refl, refl, refl)

-- The first area, at bit 63: its kind is 5.
kind_refused : told (read_message (notices (ours true)) (set (set message 7 0x8B) 8 0x67)) ≡ record { code = 4; bit = 63 }
unfolding read_message notices notice read read_field walk or_zero subtypes subtype repeat value_of bit digits bits_of
kind_refused = refl

-- One area, a point at N 31°61.57' E 121°30.84': kind at 63, how many at 66, south at 70, degrees at 71, minutes at 78.
minutes_refused : told (read_message (notices (ours true)) (0x69 ∷ 0x21 ∷ 0xC2 ∷ 0x69 ∷ 0x2E ∷ 0x7B ∷ 0x76 ∷ 0x82 ∷ 0x44 ∷ 0x7F ∷ 0xD7 ∷ 0x27 ∷ 0x97 ∷ 0xAA ∷ 0x25 ∷ 0x80 ∷ [])) ≡ record { code = 4; bit = 78 }
unfolding read_message notices notice read read_field walk wide or_zero subtypes subtype repeat value_of bit digits bits_of
minutes_refused = refl

-- A text is refused at its first bit, whichever byte of it is bad: no area and the text `AB` with a line feed behind it, at 63;
text_refused : told (read_message (notices (ours true)) (0x69 ∷ 0x21 ∷ 0xC2 ∷ 0x69 ∷ 0x2E ∷ 0x7B ∷ 0x76 ∷ 0x80 ∷ 0x82 ∷ 0x84 ∷ 0x14 ∷ [])) ≡ record { code = 4; bit = 63 }
unfolding read_message notices notice read read_field walk or_zero subtypes subtype repeat in_language english value_of bit digits bits_of bytes_of
text_refused = refl

-- behind areas of 11, 50, 93, 58 and 136 bits, the last of its 13 bytes being 0x7F, at 411; and the fill behind it, five bits that are not zero, at 515.
end_refused : (told (read_message (notices (ours true)) (set (set message 63 0xCF) 64 0xE0)) ≡ record { code = 4; bit = 411 }) × (told (read_message (notices (ours true)) (set message 64 0xC1)) ≡ record { code = 5; bit = 515 })
unfolding read_message notices notice read read_field walk wide or_zero subtypes subtype repeat in_language english value_of bit digits bits_of bytes_of
end_refused = (refl, refl)

-- The same text written.
text_unwritten : told (write_message (notices (ours true)) (values_of (warned.0, (warned.1.0, set warned.1.1 12 0x7F)))) ≡ record { code = 4; bit = 411 }
unfolding write_message notices notice write write_field sized walk wide or_zero subtypes subtype repeat repeat_of repeat_told in_language english values_of value_of bit digits bits_of bytes_of
text_unwritten = refl

-- Corrected: type 2, at bit 30, has no subtype 11, at 34; month 13 in the expiry, at 39; a year that 7 bits do not spell, at 23.
corrections_refused :
    (told (correct_message (notices (ours true)) message 4 2) ≡ record { code = 4; bit = 34 })
    × (told (correct_message (notices (ours true)) message 6 ((((1 * 16 + 13) * 32 + 27) * 32 + 14) * 64 + 52)) ≡ record { code = 4; bit = 39 })
    × (told (correct_message (notices (ours true)) message 3 128) ≡ record { code = 4; bit = 23 })
unfolding correct_message read_message write_message notices notice read read_field write write_field sized spot walk wide or_zero subtypes subtype repeat in_language english value_of bit digits bits_of bytes_of
corrections_refused = (refl, refl, refl)
