-- The example of 001, A.2, and what is told of it where a byte is changed: each line computes.
use Rattle.std.specs.Prelude.{List, [], ◌∷◌, ◌≡◌, refl, ℕ, set}
use Rattle.bits.specs.Xor.{xor_of}
use Rattle.bits.specs.Bits.{bit, value_of, digits, bits_of, field_at}
use Rattle.distress.specs.Report.{report as fields, reports}
use Rattle.format.specs.Fmt.{accepted, refused, read_field, read}
use Rattle.format.specs.Message.{read_message}
use Rattle.format.specs.Words.{walk}
use Rattle.sentence.specs.Spelling.{figure_of, digit_value, all_digits, decimal, spelt, hex_of, unhexed, closing_of}
use Rattle.sentence.specs.Pattern.{opening, summed_up, sentence, same_bytes, address_like, pattern_like, lead_of, around_so}
use Rattle.format.specs.Promises.{plain}
use Rattle.sentence.specs.Sentence.{read_sentence}

-- bdc1075bcd15385c8780d1ba258c8a16c0
abbrev report : List ℕ
report = 0xBD ∷ 0xC1 ∷ 0x07 ∷ 0x5B ∷ 0xCD ∷ 0x15 ∷ 0x38 ∷ 0x5C ∷ 0x87 ∷ 0x80 ∷ 0xD1 ∷ 0xBA ∷ 0x25 ∷ 0x8C ∷ 0x8A ∷ 0x16 ∷ 0xC0 ∷ []

-- `$CCTXA,1234567,2,2,A4bdc1075bcd15385c8780d1ba258c8a16c0*52` CR LF
abbrev example : List ℕ
example = 0x24 ∷ 0x43 ∷ 0x43 ∷ 0x54 ∷ 0x58 ∷ 0x41 ∷ 0x2C ∷ 0x31 ∷ 0x32 ∷ 0x33 ∷ 0x34 ∷ 0x35 ∷ 0x36 ∷ 0x37 ∷ 0x2C ∷ 0x32 ∷ 0x2C ∷ 0x32 ∷ 0x2C ∷ 0x41 ∷ 0x34 ∷ 0x62 ∷ 0x64 ∷ 0x63 ∷ 0x31 ∷ 0x30 ∷ 0x37 ∷ 0x35 ∷ 0x62 ∷ 0x63 ∷ 0x64 ∷ 0x31 ∷ 0x35 ∷ 0x33 ∷ 0x38 ∷ 0x35 ∷ 0x63 ∷ 0x38 ∷ 0x37 ∷ 0x38 ∷ 0x30 ∷ 0x64 ∷ 0x31 ∷ 0x62 ∷ 0x61 ∷ 0x32 ∷ 0x35 ∷ 0x38 ∷ 0x63 ∷ 0x38 ∷ 0x61 ∷ 0x31 ∷ 0x36 ∷ 0x63 ∷ 0x30 ∷ 0x2A ∷ 0x35 ∷ 0x32 ∷ 0x0D ∷ 0x0A ∷ []

example_written : sentence 1_234_567 report ≡ example
unfolding sentence summed_up opening decimal figure_of hex_of closing_of xor_of
example_written = refl

example_read : around_so example ≡ accepted (1_234_567, report)
unfolding around_so lead_of pattern_like address_like same_bytes all_digits digit_value spelt unhexed closing_of figure_of xor_of
example_read = refl

-- ---- refused: by 001, table A.1, the report has 16 bits of code, 32 of MMSI, 25 of longitude, 24 of latitude, 5, 5 and 6 of time, 7 of speed, 9 of course; then the type, 4, at bit 129 of the report, and the fill, 3, at bit 133

-- `c1*53` at the end: the fill is not zero; `1` for `0` turns the last bit of the sum
fill_refused : plain (read_sentence (set (set example 54 0x31) 57 0x33)) ≡ refused 5 133
unfolding read_sentence around_so lead_of pattern_like address_like same_bytes all_digits digit_value spelt unhexed closing_of figure_of xor_of read_message reports fields read read_field walk field_at value_of bit digits bits_of
fill_refused = refl

-- `f8*5F` at the end: type 15; `f` for `c` turns 5 in the sum and `8` for `0` turns 8
type_refused : plain (read_sentence (set (set (set example 53 0x66) 54 0x38) 57 0x46)) ≡ refused 4 129
unfolding read_sentence around_so lead_of pattern_like address_like same_bytes all_digits digit_value spelt unhexed closing_of figure_of xor_of read_message reports fields read read_field walk field_at value_of bit digits bits_of
type_refused = refl

-- `0234567` and `*53`: a leading zero is the sentence's own 4, at no field
zero_refused : plain (read_sentence (set (set example 7 0x30) 57 0x33)) ≡ refused 4 0
unfolding read_sentence around_so lead_of pattern_like address_like same_bytes all_digits digit_value spelt unhexed closing_of figure_of xor_of
zero_refused = refl
