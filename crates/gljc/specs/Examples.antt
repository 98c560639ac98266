-- A frame GLJC, laid down by hand from document 004, 4.1 and 4.2.1: read as the record that the document says, and written back as the same bytes; and what is told of others like it.
use Rattle.std.specs.Prelude.{◌≡◌, refl, List, [], ◌∷◌, ℕ, Err}
use Rattle.bits.specs.Bits.{bit, value_of, digits, bits_of, bytes_of, field_at}
use Rattle.bits.specs.Xor.{xor_of}
use Rattle.frame.specs.Frame.{leads}
use Rattle.format.specs.Fmt.{accepted, read_field, read, write_field, write, spot}
use Rattle.format.specs.Message.{told, read_message, write_message, correct_message}
use Rattle.format.specs.Promises.{read_record}
use Rattle.format.specs.Words.{walk}
use Rattle.format.specs.declared.Reason.TheVariants.{Checksum, Range}
use Rattle.gljc.specs.Gljc.{gljc, gljcs, values_of, record_of}
use Rattle.gljc.specs.Promises.{Reads}
use Rattle.gljc.specs.declared.reading.Gljc.{Gljc}

-- own address 1,193,046, every 75 minutes
abbrev asked : Gljc
asked = record { address = 1_193_046; minutes = 75 }

abbrev frame : List ℕ
frame = 0x24 ∷ 0x47 ∷ 0x4C ∷ 0x4A ∷ 0x43 ∷ 0x00 ∷ 0x0C ∷ 0x12 ∷ 0x34 ∷ 0x56 ∷ 0x4B ∷ 0x11 ∷ []

frame_read : read_record gljcs record_of frame ≡ accepted asked
unfolding read_message gljcs gljc leads read read_field walk record_of field_at value_of bit digits bits_of bytes_of xor_of
frame_read = refl

frame_written : write_message gljcs (values_of asked) ≡ accepted frame
unfolding write_message gljcs gljc values_of write write_field walk value_of bit digits bytes_of xor_of
frame_written = refl

-- ---- refusals: `$` is bits 0 to 7, the letters 8 to 39, the length 40 to 55, the own address 56 to 79, the minutes 80 to 87

-- own address 2,097,152, one too many
too_far : Reads (0x24 ∷ 0x47 ∷ 0x4C ∷ 0x4A ∷ 0x43 ∷ 0x00 ∷ 0x0C ∷ 0x20 ∷ 0x00 ∷ 0x00 ∷ 0x4B ∷ 0x41 ∷ []) (Err (record { reason = Range; bit = 56 }))
unfolding read_message gljcs gljc leads read read_field walk field_at value_of bit digits bits_of xor_of
too_far = refl

-- no field is at fault where the checksum is another
other_checksum : Reads (0x24 ∷ 0x47 ∷ 0x4C ∷ 0x4A ∷ 0x43 ∷ 0x00 ∷ 0x0C ∷ 0x12 ∷ 0x34 ∷ 0x56 ∷ 0x4B ∷ 0x10 ∷ []) (Err (record { reason = Checksum; bit = 0 }))
unfolding read_message gljcs gljc leads read read_field walk field_at value_of bit digits bits_of xor_of
other_checksum = refl

-- 256 minutes, which 8 bits cannot tell
too_wide : told (correct_message gljcs frame 4 256) ≡ record { code = 4; bit = 80 }
unfolding correct_message read_message write_message gljcs gljc leads read read_field write write_field spot walk field_at value_of bit digits bits_of xor_of
too_wide = refl
