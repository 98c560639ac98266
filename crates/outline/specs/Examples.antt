-- Angles of zero, and a notice with a line of two points, drawn and refused, computed from the definitions.
use Rattle.std.specs.Prelude.{◌≡◌, refl, true, List, [], ◌∷◌, ℕ, ℤ, pos, neg_ℤ, take, set}
use Rattle.bits.specs.Bits.{bit, value_of, digits, bits_of, bytes_of}
use Rattle.format.specs.Fmt.{accepted, refused, read_field, read}
use Rattle.format.specs.Message.{read_message}
use Rattle.format.specs.Promises.{plain}
use Rattle.format.specs.Words.{walk, wide, or_zero}
use Rattle.text.specs.Text.{english, in_language}
use Rattle.notice_fields.specs.Parts.{subtypes, subtype}
use Rattle.format.specs.Groups.{repeat, repeat_of, repeat_told}
use Rattle.notice.specs.Notice.{notice, notices}
use Rattle.notice.specs.Record.{head_of, text_of, record_of}
use Rattle.outline.specs.Angles.{northing}
use Rattle.outline.specs.Outline.{outline_of}
use Rattle.outline.specs.Promises.{drawn, counted}

-- N 0°00.00' and S 0°00.00'
zero_north : northing 0 ≡ pos 0
zero_north = refl

zero_south : northing 0x10_0000 ≡ pos 0
zero_south = refl

-- case G's notice with one area: a line from S 0°00.01' W 180°60.99' to N 31°12.50' E 121°30.05'
abbrev line : List ℕ
line = 0x20 ∷ 0x80 ∷ 0x02 ∷ 0x61 ∷ 0x18 ∷ 0x00 ∷ 0x00 ∷ 0x02 ∷ 0x8A ∷ 0x00 ∷ 0x00 ∷ 0x3B ∷ 0x4F ∷ 0x31 ∷ 0x8F ∷ 0x98 ∷ 0xC8 ∷ 0xF2 ∷ 0xF0 ∷ 0x50 ∷ []

-- a row of six, of which four are filled
abbrev row : List ℤ
row = pos 0 ∷ pos 0 ∷ pos 0 ∷ pos 0 ∷ pos 7 ∷ pos 8 ∷ []

line_drawn : (drawn true line row ≡ accepted (neg_ℤ (pos 1) ∷ neg_ℤ (pos 1_086_099) ∷ pos 187_250 ∷ pos 729_005 ∷ pos 7 ∷ pos 8 ∷ [])) × (counted true line row ≡ accepted 2)
unfolding read_message notices notice read read_field walk wide or_zero subtypes subtype repeat in_language english value_of bit digits bits_of bytes_of head_of text_of record_of repeat_told repeat_of
line_drawn = (refl, refl)

-- A line of one point is refused as reading refuses it: the kind stands at bit 63, how many points at 66. Room has no bit: a row of three.
line_refused : (plain (counted true (set line 8 0x86) row) ≡ refused 4 66) × (plain (counted true line (take 3 row)) ≡ refused 6 0)
unfolding read_message notices notice read read_field walk wide or_zero subtypes subtype repeat in_language english value_of bit digits bits_of bytes_of head_of text_of record_of repeat_told repeat_of
line_refused = (refl, refl)

-- a sea area gives nothing, a circle its centre
sea_and_circle : outline_of 2 (0 ∷ 77 ∷ 3 ∷ 0x10_0001 ∷ 128 ∷ 500 ∷ 2 ∷ []) ≡ neg_ℤ (pos 1) ∷ pos 100 ∷ []
unfolding repeat_told
sea_and_circle = refl
