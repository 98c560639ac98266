-- A packet laid down by hand from document 000, 5.2.2.2: read as the record and the content that the document says, written back as the same bytes, corrected; and which refusal of a packet comes first.
use Rattle.std.specs.Prelude.{◌≡◌, ℕ, List, [], ◌∷◌, slice_set, refl}
use Rattle.bits.specs.Bits.{bit, value_of, digits, bits_of, bytes_of, field_at}
use Rattle.format.specs.Fmt.{accepted, refused, read_field, read, write_field, sized, write, spot}
use Rattle.format.specs.Message.{read_message, write_message, correct_message}
use Rattle.format.specs.Promises.{read_record}
use Rattle.format.specs.Words.{walk}
use Rattle.packet.specs.Packet.{packet, packets, values_of, record_of}
use Rattle.packet.specs.declared.reading.Packet.{Packet}

-- English, message number 157, packet 26 of those from 0 to 40; content 4B 65 70
abbrev sent : Packet × List ℕ
sent = (record { language = 1; number = 157; total = 41; own = 26 }, 0x4B ∷ 0x65 ∷ 0x70 ∷ [])

abbrev message : List ℕ
message = 0xE1 ∷ 0x39 ∷ 0xDA ∷ 0x5A ∷ 0x4B ∷ 0x65 ∷ 0x70 ∷ []

message_read : read_record packets record_of message ≡ accepted sent
unfolding read_message packets packet read read_field walk record_of field_at value_of bit digits bits_of bytes_of
message_read = refl

message_written : write_message packets (values_of sent) ≡ accepted message
unfolding write_message packets packet values_of write write_field sized walk value_of bit digits bits_of bytes_of
message_written = refl

-- its own number, field 5, is corrected to 13
own_corrected : correct_message packets message 5 13 ≡ accepted (slice_set message 3 0x4D)
unfolding correct_message read_message write_message packets packet read read_field write write_field sized spot walk field_at value_of bit digits bits_of bytes_of
own_corrected = refl

-- an own number that is not below the total is refused at its first bit
second_of_one : read_message packets (0xE1 ∷ 0x20 ∷ 0x70 ∷ 0x41 ∷ 0x41 ∷ []) ≡ refused 4 26
unfolding read_message packets packet read read_field walk field_at value_of bit digits bits_of
second_of_one = refl

-- no content is the smallest size's refusal, whatever the version
no_content : read_message packets (0xE1 ∷ 0x40 ∷ 0x70 ∷ 0x40 ∷ []) ≡ refused 1 0
unfolding read_message packets
no_content = refl
