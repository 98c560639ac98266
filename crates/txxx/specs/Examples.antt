-- A frame TXXX, laid down by hand from document 004, 4.3 and 4.4.3: read as the record and the content that the document says, written back as the same bytes, corrected; and what is told of others like it.
use Rattle.std.specs.Prelude.{◌≡◌, refl, List, [], ◌∷◌, ℕ, Err}
use Rattle.bits.specs.Bits.{bit, value_of, digits, bits_of, bytes_of, field_at}
use Rattle.bits.specs.Xor.{xor_of}
use Rattle.frame.specs.Frame.{declared, leads, content_of}
use Rattle.format.specs.Fmt.{accepted, refused, read_field, read, write_field, write, spot}
use Rattle.format.specs.Message.{told, read_message, write_message, correct_message}
use Rattle.format.specs.Promises.{read_record}
use Rattle.format.specs.Words.{walk}
use Rattle.format.specs.declared.Reason.TheVariants.{Fill, Size}
use Rattle.txxx.specs.Txxx.{txxx, txxxs, values_of, record_of}
use Rattle.txxx.specs.Promises.{Reads}
use Rattle.txxx.specs.declared.reading.Txxx.{Txxx}

-- own address 1,193,046; class 01 1 0 1 1 00 (a code, found by a query, with a key); sender 2,011,733; 19:34; 21 bits; CRC mark 1, which is wrong
abbrev sent : Txxx
sent = record { address = 1_193_046; class = 0x6C; sender = 2_011_733; hour = 19; minute = 34; size = 21; mark = 1 }

-- its content is B5 CA D8, of which 21 bits count
abbrev message : List ℕ
message = 0x24 ∷ 0x54 ∷ 0x58 ∷ 0x58 ∷ 0x58 ∷ 0x00 ∷ 0x17 ∷ 0x12 ∷ 0x34 ∷ 0x56 ∷ 0x6C ∷ 0x1E ∷ 0xB2 ∷ 0x55 ∷ 0x13 ∷ 0x22 ∷ 0x00 ∷ 0x15 ∷ 0xB5 ∷ 0xCA ∷ 0xD8 ∷ 0x01 ∷ 0x58 ∷ []

message_read : read_record txxxs record_of message ≡ accepted (sent, 0xB5 ∷ 0xCA ∷ 0xD8 ∷ [])
unfolding read_message txxxs txxx leads read read_field walk record_of content_of field_at value_of bit digits bits_of bytes_of xor_of
message_read = refl

message_written : write_message txxxs (values_of (sent, 0xB5 ∷ 0xCA ∷ 0xD8 ∷ [])) ≡ accepted message
unfolding write_message txxxs txxx declared values_of write write_field walk field_at value_of bit digits bits_of bytes_of xor_of
message_written = refl

-- the CRC mark, field 11, stands behind the content; it is corrected to 0, which is right, and with it the checksum
mark_corrected : correct_message txxxs message 11 0 ≡ accepted (0x24 ∷ 0x54 ∷ 0x58 ∷ 0x58 ∷ 0x58 ∷ 0x00 ∷ 0x17 ∷ 0x12 ∷ 0x34 ∷ 0x56 ∷ 0x6C ∷ 0x1E ∷ 0xB2 ∷ 0x55 ∷ 0x13 ∷ 0x22 ∷ 0x00 ∷ 0x15 ∷ 0xB5 ∷ 0xCA ∷ 0xD8 ∷ 0x00 ∷ 0x59 ∷ [])
unfolding correct_message read_message write_message txxxs txxx leads read read_field write write_field spot walk field_at value_of bit digits bits_of bytes_of xor_of
mark_corrected = refl

-- ---- refusals: behind the own address, bits 56 to 79, the class is 80 to 87, the sender 88 to 111, the hour 112 to 119, the minute 120 to 127, the bit length 128 to 143, and the content begins at 144

-- at the fill, three bits from 144 + 21 on
fill_bit : write_message txxxs (values_of (sent, 0xB5 ∷ 0xCA ∷ 0xD9 ∷ [])) ≡ refused 5 165
unfolding write_message txxxs txxx declared values_of write write_field walk field_at value_of bit digits bits_of
fill_bit = refl

fill_bit_read : Reads (0x24 ∷ 0x54 ∷ 0x58 ∷ 0x58 ∷ 0x58 ∷ 0x00 ∷ 0x17 ∷ 0x12 ∷ 0x34 ∷ 0x56 ∷ 0x6C ∷ 0x1E ∷ 0xB2 ∷ 0x55 ∷ 0x13 ∷ 0x22 ∷ 0x00 ∷ 0x15 ∷ 0xB5 ∷ 0xCA ∷ 0xD9 ∷ 0x01 ∷ 0x59 ∷ []) (Err (record { reason = Fill; bit = 165 }))
unfolding read_message txxxs txxx leads read read_field walk field_at value_of bit digits bits_of xor_of
fill_bit_read = refl

-- 25 bits of content, which are four bytes, in the frame, which has three
other_bit_length : Reads (0x24 ∷ 0x54 ∷ 0x58 ∷ 0x58 ∷ 0x58 ∷ 0x00 ∷ 0x17 ∷ 0x12 ∷ 0x34 ∷ 0x56 ∷ 0x6C ∷ 0x1E ∷ 0xB2 ∷ 0x55 ∷ 0x13 ∷ 0x22 ∷ 0x00 ∷ 0x19 ∷ 0xB5 ∷ 0xCA ∷ 0xD8 ∷ 0x01 ∷ 0x54 ∷ []) (Err (record { reason = Size; bit = 128 }))
unfolding read_message txxxs txxx leads read read_field walk field_at value_of bit digits bits_of xor_of
other_bit_length = refl

-- an hour of 24
late : told (correct_message txxxs message 6 24) ≡ record { code = 4; bit = 112 }
unfolding correct_message read_message write_message txxxs txxx leads read read_field write write_field spot walk field_at value_of bit digits bits_of xor_of
late = refl
