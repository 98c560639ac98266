-- Two frames TXSQ: that of paper 01's case A (crate numbers_to_stand_by) with all of its fields and its content; and one laid down by hand from document 004, 4.1 and 4.2.3, read, written and corrected; and what is told of others like them.
use Rattle.std.specs.Prelude.{◌≡◌, refl, List, [], ◌∷◌, ℕ, Err}
use Rattle.bits.specs.Bits.{bit, value_of, digits, bits_of, bytes_of, field_at}
use Rattle.bits.specs.Xor.{xor_of}
use Rattle.frame.specs.Frame.{declared, leads, content_of}
use Rattle.format.specs.Fmt.{accepted, read_field, read, write_field, write, spot}
use Rattle.format.specs.Message.{told, read_message, write_message, correct_message}
use Rattle.format.specs.Promises.{read_record}
use Rattle.format.specs.Words.{walk}
use Rattle.format.specs.declared.Reason.TheVariants.{Fill, Kind, Range, Size}
use Rattle.txsq.specs.Txsq.{txsq, txsqs, values_of, record_of}
use Rattle.txsq.specs.Promises.{Reads}
use Rattle.txsq.specs.declared.reading.Txsq.{Txsq}

-- `24 54 58 53 51 00 14 02 00 BA 46 02 00 BA 00 10 00 A4 31 FD`
abbrev message : List ℕ
message = 0x24 ∷ 0x54 ∷ 0x58 ∷ 0x53 ∷ 0x51 ∷ 0x00 ∷ 0x14 ∷ 0x02 ∷ 0x00 ∷ 0xBA ∷ 0x46 ∷ 0x02 ∷ 0x00 ∷ 0xBA ∷ 0x00 ∷ 0x10 ∷ 0x00 ∷ 0xA4 ∷ 0x31 ∷ 0xFD ∷ []

-- category 01, mode 1, no password
written : write_message txsqs (values_of (record { address = 131_258; category = 1; mode = 1; password = 0; receiver = 131_258; size = 16; answer = 0 }, 0xA4 ∷ 0x31 ∷ [])) ≡ accepted message
unfolding write_message txsqs txsq declared values_of write write_field walk field_at value_of bit digits bits_of bytes_of xor_of
written = refl

-- own address 1,193,046; class 010, key 0, category 01, text (0), with a password (1); receiver 2,011,733; 24 bits; answer 5A; content B5 CA DB
abbrev asked : Txsq
asked = record { address = 1_193_046; category = 1; mode = 0; password = 1; receiver = 2_011_733; size = 24; answer = 0x5A }

abbrev frame : List ℕ
frame = 0x24 ∷ 0x54 ∷ 0x58 ∷ 0x53 ∷ 0x51 ∷ 0x00 ∷ 0x15 ∷ 0x12 ∷ 0x34 ∷ 0x56 ∷ 0x45 ∷ 0x1E ∷ 0xB2 ∷ 0x55 ∷ 0x00 ∷ 0x18 ∷ 0x5A ∷ 0xB5 ∷ 0xCA ∷ 0xDB ∷ 0x15 ∷ []

frame_read : read_record txsqs record_of frame ≡ accepted (asked, 0xB5 ∷ 0xCA ∷ 0xDB ∷ [])
unfolding read_message txsqs txsq leads read read_field walk record_of content_of field_at value_of bit digits bits_of bytes_of xor_of
frame_read = refl

frame_written : write_message txsqs (values_of (asked, 0xB5 ∷ 0xCA ∷ 0xDB ∷ [])) ≡ accepted frame
unfolding write_message txsqs txsq declared values_of write write_field walk field_at value_of bit digits bits_of bytes_of xor_of
frame_written = refl

-- the receiver, field 8, is corrected to 990,765, and with it the checksum
receiver_corrected : correct_message txsqs frame 8 990_765 ≡ accepted (0x24 ∷ 0x54 ∷ 0x58 ∷ 0x53 ∷ 0x51 ∷ 0x00 ∷ 0x15 ∷ 0x12 ∷ 0x34 ∷ 0x56 ∷ 0x45 ∷ 0x0F ∷ 0x1E ∷ 0x2D ∷ 0x00 ∷ 0x18 ∷ 0x5A ∷ 0xB5 ∷ 0xCA ∷ 0xDB ∷ 0xD0 ∷ [])
unfolding correct_message read_message write_message txsqs txsq leads read read_field write write_field spot walk field_at value_of bit digits bits_of bytes_of xor_of
receiver_corrected = refl

-- ---- refusals: behind the own address, bits 56 to 79, the class is 80 to 87 (its first four, category 84 and 85, mode 86, password 87), the receiver 88 to 111, the bit length 112 to 127, the answer 128 to 135, and the content begins at 136

-- the frame in category 00: its password is refused there
password_in_category_0 : Reads (0x24 ∷ 0x54 ∷ 0x58 ∷ 0x53 ∷ 0x51 ∷ 0x00 ∷ 0x15 ∷ 0x12 ∷ 0x34 ∷ 0x56 ∷ 0x41 ∷ 0x1E ∷ 0xB2 ∷ 0x55 ∷ 0x00 ∷ 0x18 ∷ 0x5A ∷ 0xB5 ∷ 0xCA ∷ 0xDB ∷ 0x11 ∷ []) (Err (record { reason = Range; bit = 87 }))
unfolding read_message txsqs txsq leads read read_field walk field_at value_of bit digits bits_of xor_of
password_in_category_0 = refl

-- corrected to that, it is refused at the password too, and not at the category
category_corrected : told (correct_message txsqs frame 5 0) ≡ record { code = 4; bit = 87 }
unfolding correct_message read_message write_message txsqs txsq leads read read_field write write_field spot walk field_at value_of bit digits bits_of xor_of
category_corrected = refl

-- a class of 011: a kind that is not handled tells no bit
other_class : Reads (0x24 ∷ 0x54 ∷ 0x58 ∷ 0x53 ∷ 0x51 ∷ 0x00 ∷ 0x15 ∷ 0x12 ∷ 0x34 ∷ 0x56 ∷ 0x65 ∷ 0x1E ∷ 0xB2 ∷ 0x55 ∷ 0x00 ∷ 0x18 ∷ 0x5A ∷ 0xB5 ∷ 0xCA ∷ 0xDB ∷ 0x35 ∷ []) (Err (record { reason = Kind; bit = 0 }))
unfolding read_message txsqs txsq leads read read_field walk field_at value_of bit digits bits_of xor_of
other_class = refl

-- 16 bits of content in the frame, which has three bytes of it
other_bit_length : Reads (0x24 ∷ 0x54 ∷ 0x58 ∷ 0x53 ∷ 0x51 ∷ 0x00 ∷ 0x15 ∷ 0x12 ∷ 0x34 ∷ 0x56 ∷ 0x45 ∷ 0x1E ∷ 0xB2 ∷ 0x55 ∷ 0x00 ∷ 0x10 ∷ 0x5A ∷ 0xB5 ∷ 0xCA ∷ 0xDB ∷ 0x1D ∷ []) (Err (record { reason = Size; bit = 112 }))
unfolding read_message txsqs txsq leads read read_field walk field_at value_of bit digits bits_of xor_of
other_bit_length = refl

-- case A with 15 bits of content: the last bit of 31, 136 + 15, is not used, and not zero
unused_bit : Reads (0x24 ∷ 0x54 ∷ 0x58 ∷ 0x53 ∷ 0x51 ∷ 0x00 ∷ 0x14 ∷ 0x02 ∷ 0x00 ∷ 0xBA ∷ 0x46 ∷ 0x02 ∷ 0x00 ∷ 0xBA ∷ 0x00 ∷ 0x0F ∷ 0x00 ∷ 0xA4 ∷ 0x31 ∷ 0xE2 ∷ []) (Err (record { reason = Fill; bit = 151 }))
unfolding read_message txsqs txsq leads read read_field walk field_at value_of bit digits bits_of xor_of
unused_bit = refl
