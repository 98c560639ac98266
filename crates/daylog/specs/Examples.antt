-- The definitions at work: each line computes.
use Rattle.std.specs.Prelude.{◌≡◌, ℕ, List, [], ◌∷◌, ◌++◌, refl}
use Rattle.bits.specs.Bits.{bit, value_of, digits, bits_of, field_at}
use Rattle.bits.specs.Xor.{xor_of}
use Rattle.frame.specs.Frame.{leads}
use Rattle.gljc.specs.Gljc.{gljc, gljcs}
use Rattle.packet.specs.Packet.{packet as layout, packets}
use Rattle.format.specs.Fmt.{read_field, read}
use Rattle.format.specs.Message.{read_message}
use Rattle.format.specs.Words.{walk}
use Rattle.serial.specs.Serial.{refusal_as, refusal_of as serial_refusal}
use Rattle.daylog.specs.LinesText.{digits_by, decimal, line}
use Rattle.daylog.specs.Words.{serial, packet, unknown}
use Rattle.daylog.specs.Text.{head, broken}
use Rattle.daylog.specs.Kinds.{word, refusal_of, entry_line}
use Rattle.daylog.specs.Log.{after_all, lines, listing_from, listing}
use Rattle.daylog.specs.Records.{front, records_by, records, size_of}

tens : decimal 210 ≡ 0x32 ∷ 0x31 ∷ 0x30 ∷ []
unfolding decimal digits_by
tens = refl

-- an empty log: the heading alone
none : listing [] ≡ head
unfolding listing listing_from records records_by lines after_all size_of
none = refl

-- a record of kind 0 with one byte, then three bytes: `1 unknown 2 1 0`, `2 broken 1 3 0`
cut : listing (5 ∷ 0 ∷ 0 ∷ 0 ∷ 9 ∷ 5 ∷ 0 ∷ 3 ∷ [])
    ≡ head ++ ((0x31 ∷ 0x20 ∷ unknown ++ (0x20 ∷ 0x32 ∷ 0x20 ∷ 0x31 ∷ 0x20 ∷ 0x30 ∷ 0x0a ∷ [])) ++ (0x32 ∷ 0x20 ∷ broken ++ (0x20 ∷ 0x31 ∷ 0x20 ∷ 0x33 ∷ 0x20 ∷ 0x30 ∷ 0x0a ∷ [])))
unfolding listing listing_from records records_by front lines after_all size_of entry_line line decimal digits_by word refusal_of
cut = refl

-- 01's example: a frame GLJC, then the same with another last byte
abbrev frame : ℕ → List ℕ → List ℕ
frame last rest = 0x10 ∷ 0x00 ∷ 0x01 ∷ 0x00 ∷ 0x24 ∷ 0x47 ∷ 0x4C ∷ 0x4A ∷ 0x43 ∷ 0x00 ∷ 0x0C ∷ 0x00 ∷ 0x00 ∷ 0x00 ∷ 0x00 ∷ last ∷ rest

-- `1 serial 0 12 0`, `2 serial 3 12 0`: a checksum is no field
two_frames : listing (frame 0x2A (frame 0x0B []))
    ≡ head ++ ((0x31 ∷ 0x20 ∷ serial ++ (0x20 ∷ 0x30 ∷ 0x20 ∷ 0x31 ∷ 0x32 ∷ 0x20 ∷ 0x30 ∷ 0x0a ∷ [])) ++ (0x32 ∷ 0x20 ∷ serial ++ (0x20 ∷ 0x33 ∷ 0x20 ∷ 0x31 ∷ 0x32 ∷ 0x20 ∷ 0x30 ∷ 0x0a ∷ [])))
unfolding listing listing_from records records_by front lines after_all size_of entry_line line decimal digits_by word refusal_of serial_refusal refusal_as leads read_message gljcs gljc read read_field walk field_at value_of bit digits bits_of xor_of
two_frames = refl

-- A packet of one byte, then the same with an own number that is not below its total: `1 packet 0 5 0`, `2 packet 4 5 26`. The own number
-- stands behind 8 bits of code, 3 of version, 1 of language, 8 of number and 6 of total: 26.
abbrev part : ℕ → List ℕ → List ℕ
part numbers rest = 0x09 ∷ 0x00 ∷ 0x02 ∷ 0x00 ∷ 0xE1 ∷ 0x20 ∷ 0x70 ∷ numbers ∷ 0x41 ∷ rest

two_packets : listing (part 0x40 (part 0x41 []))
    ≡ head ++ ((0x31 ∷ 0x20 ∷ packet ++ (0x20 ∷ 0x30 ∷ 0x20 ∷ 0x35 ∷ 0x20 ∷ 0x30 ∷ 0x0a ∷ [])) ++ (0x32 ∷ 0x20 ∷ packet ++ (0x20 ∷ 0x34 ∷ 0x20 ∷ 0x35 ∷ 0x20 ∷ 0x32 ∷ 0x36 ∷ 0x0a ∷ [])))
unfolding listing listing_from records records_by front lines after_all size_of entry_line line decimal digits_by word refusal_of read_message packets layout read read_field walk field_at value_of bit digits bits_of
two_packets = refl

-- a tide telegram, which has no kind of its own, under kind 2 and under one that 01 does not list: `1 packet 2 9 0`, `2 unknown 2 9 0`
abbrev tide : ℕ → List ℕ → List ℕ
tide kind rest = 0x0D ∷ 0x00 ∷ kind ∷ 0x00 ∷ 0xE4 ∷ 0x20 ∷ 0x08 ∷ 0xB0 ∷ 0x05 ∷ 0x70 ∷ 0x73 ∷ 0xD2 ∷ 0xEC ∷ rest

two_tides : listing (tide 2 (tide 5 []))
    ≡ head ++ ((0x31 ∷ 0x20 ∷ packet ++ (0x20 ∷ 0x32 ∷ 0x20 ∷ 0x39 ∷ 0x20 ∷ 0x30 ∷ 0x0a ∷ [])) ++ (0x32 ∷ 0x20 ∷ unknown ++ (0x20 ∷ 0x32 ∷ 0x20 ∷ 0x39 ∷ 0x20 ∷ 0x30 ∷ 0x0a ∷ [])))
unfolding listing listing_from records records_by front lines after_all size_of entry_line line decimal digits_by word refusal_of read_message packets layout read read_field walk field_at value_of bit digits bits_of
two_tides = refl
