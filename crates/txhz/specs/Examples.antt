-- A frame TXHZ with five receipts, laid down by hand from document 004, 4.4.4: read as the record that the document says, written back as the same bytes, corrected; and what paper 01 says of the count, on frames with one receipt.
use Rattle.std.specs.Prelude.{◌≡◌, refl, List, [], ◌∷◌, ℕ, Err}
use Rattle.bits.specs.Bits.{bit, value_of, digits, bits_of, bytes_of, field_at}
use Rattle.bits.specs.Xor.{xor_of}
use Rattle.frame.specs.Frame.{leads}
use Rattle.format.specs.Fmt.{accepted, read_field, read, write_field, write, spot}
use Rattle.format.specs.Message.{told, read_message, write_message, correct_message}
use Rattle.format.specs.Promises.{read_record}
use Rattle.format.specs.Words.{walk}
use Rattle.format.specs.declared.Reason.TheVariants.{Fill, Range}
use Rattle.txhz.specs.Txhz.{txhz, txhzs, values_of, record_of}
use Rattle.txhz.specs.Promises.{Reads}
use Rattle.txhz.specs.declared.reading.Receipt.{Receipt}
use Rattle.txhz.specs.declared.reading.Txhz.{Txhz}

-- sent at one time, received at another
abbrev receipt : (hour minute hour' minute' : ℕ) → Receipt
receipt hour minute hour' minute' = record { sent_hour = hour; sent_minute = minute; receipt_hour = hour'; receipt_minute = minute' }

-- own address 1,193,046, receiver 2,011,733, five receipts
abbrev five : Txhz
five = record { address = 1_193_046; receiver = 2_011_733; count = 5; first = receipt 21 43 22 5; second = receipt 7 58 9 16; third = receipt 13 31 14 27; fourth = receipt 3 12 4 50; fifth = receipt 18 39 20 1 }

abbrev frame : List ℕ
frame =
    0x24 ∷ 0x54 ∷ 0x58 ∷ 0x48 ∷ 0x5A ∷ 0x00 ∷ 0x23 ∷ 0x12 ∷ 0x34 ∷ 0x56 ∷ 0x1E ∷ 0xB2 ∷ 0x55 ∷ 0x05
    ∷ 0x15 ∷ 0x2B ∷ 0x16 ∷ 0x05 ∷ 0x07 ∷ 0x3A ∷ 0x09 ∷ 0x10 ∷ 0x0D ∷ 0x1F ∷ 0x0E ∷ 0x1B ∷ 0x03 ∷ 0x0C ∷ 0x04 ∷ 0x32 ∷ 0x12 ∷ 0x27 ∷ 0x14 ∷ 0x01 ∷ 0x82 ∷ []

five_read : read_record txhzs record_of frame ≡ accepted five
unfolding read_message txhzs txhz leads read read_field walk record_of field_at value_of bit digits bits_of bytes_of xor_of
five_read = refl

five_written : write_message txhzs (values_of five) ≡ accepted frame
unfolding write_message txhzs txhz values_of write write_field walk value_of bit digits bytes_of xor_of
five_written = refl

-- the hour of the fourth receipt, field 20, is corrected to 11, and with it the checksum
fourth_corrected : correct_message txhzs frame 20 11
    ≡ accepted (
    0x24 ∷ 0x54 ∷ 0x58 ∷ 0x48 ∷ 0x5A ∷ 0x00 ∷ 0x23 ∷ 0x12 ∷ 0x34 ∷ 0x56 ∷ 0x1E ∷ 0xB2 ∷ 0x55 ∷ 0x05
    ∷ 0x15 ∷ 0x2B ∷ 0x16 ∷ 0x05 ∷ 0x07 ∷ 0x3A ∷ 0x09 ∷ 0x10 ∷ 0x0D ∷ 0x1F ∷ 0x0E ∷ 0x1B ∷ 0x03 ∷ 0x0C ∷ 0x0B ∷ 0x32 ∷ 0x12 ∷ 0x27 ∷ 0x14 ∷ 0x01 ∷ 0x8D ∷ [])
unfolding correct_message read_message write_message txhzs txhz leads read read_field write write_field spot walk field_at value_of bit digits bits_of bytes_of xor_of
fourth_corrected = refl

-- ---- the count: behind the own address, bits 56 to 79, the receiver is 80 to 103, the count 104 to 111, and receipts of 32 bits each begin at 112

-- from 1 to 2, with the receipt 12:30, 13:00, the others zero, and a last byte
abbrev message : ℕ → ℕ → List ℕ
message count last =
    0x24 ∷ 0x54 ∷ 0x58 ∷ 0x48 ∷ 0x5A ∷ 0x00 ∷ 0x23 ∷ 0x00 ∷ 0x00 ∷ 0x01 ∷ 0x00 ∷ 0x00 ∷ 0x02 ∷ count
    ∷ 12 ∷ 30 ∷ 13 ∷ 0 ∷ 0 ∷ 0 ∷ 0 ∷ 0 ∷ 0 ∷ 0 ∷ 0 ∷ 0 ∷ 0 ∷ 0 ∷ 0 ∷ 0 ∷ 0 ∷ 0 ∷ 0 ∷ 0 ∷ last ∷ []

-- a receipt that is not counted is fill: the count lowered over one that is not zero is 5, at its first byte
lowered : told (correct_message txhzs (message 1 0x04) 5 0) ≡ record { code = 5; bit = 112 }
unfolding correct_message read_message write_message txhzs txhz leads read read_field write write_field spot walk field_at value_of bit digits bits_of bytes_of xor_of
lowered = refl

-- raised, the new receipt is 00:00, 00:00
raised : correct_message txhzs (message 1 0x04) 5 2 ≡ accepted (message 2 0x07)
unfolding correct_message read_message write_message txhzs txhz leads read read_field write write_field spot walk field_at value_of bit digits bits_of bytes_of xor_of
raised = refl

-- a byte of a receipt past the count is no field to correct; of one that is counted, it is, in its range
uncounted : told (correct_message txhzs (message 1 0x04) 10 23) ≡ record { code = 10; bit = 0 }
unfolding correct_message read_message txhzs txhz leads read read_field spot walk field_at value_of bit digits bits_of xor_of
uncounted = refl

counted : told (correct_message txhzs (message 2 0x07) 10 24) ≡ record { code = 4; bit = 144 }
unfolding correct_message read_message write_message txhzs txhz leads read read_field write write_field spot walk field_at value_of bit digits bits_of xor_of
counted = refl

-- a count of 6 is 4, whether it is corrected to that or read
too_many : told (correct_message txhzs (message 1 0x04) 5 6) ≡ record { code = 4; bit = 104 }
unfolding correct_message read_message write_message txhzs txhz leads read read_field write write_field spot walk field_at value_of bit digits bits_of xor_of
too_many = refl

too_many_read : Reads (message 6 0x03) (Err (record { reason = Range; bit = 104 }))
unfolding read_message txhzs txhz leads read read_field walk field_at value_of bit digits bits_of xor_of
too_many_read = refl

-- one receipt is counted, and the second, which is not, is zero up to its sent minute: 5 at that byte, 144 + 8
not_zero : Reads (
    0x24 ∷ 0x54 ∷ 0x58 ∷ 0x48 ∷ 0x5A ∷ 0x00 ∷ 0x23 ∷ 0x00 ∷ 0x00 ∷ 0x01 ∷ 0x00 ∷ 0x00 ∷ 0x02 ∷ 0x01
    ∷ 12 ∷ 30 ∷ 13 ∷ 0 ∷ 0 ∷ 7 ∷ 0 ∷ 0 ∷ 0 ∷ 0 ∷ 0 ∷ 0 ∷ 0 ∷ 0 ∷ 0 ∷ 0 ∷ 0 ∷ 0 ∷ 0 ∷ 0 ∷ 0x03 ∷ []) (Err (record { reason = Fill; bit = 152 }))
unfolding read_message txhzs txhz leads read read_field walk field_at value_of bit digits bits_of xor_of
not_zero = refl
