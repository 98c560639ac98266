-- The order of the first tests, computed: nothing is 1, twelve zeros are 2, a TXHZ of twelve bytes is 1, and none of them tells a bit; and a GLJC that is refused at a field, with the field's bit.
use Rattle.std.specs.Prelude.{◌≡◌, refl, [], ◌∷◌}
use Rattle.bits.specs.Bits.{bit, value_of, digits, bits_of, field_at}
use Rattle.bits.specs.Xor.{xor_of}
use Rattle.frame.specs.Frame.{leads}
use Rattle.format.specs.Fmt.{read_field, read}
use Rattle.format.specs.Message.{read_message}
use Rattle.format.specs.Words.{walk}
use Rattle.gljc.specs.Gljc.{gljc, gljcs}
use Rattle.txhz.specs.Txhz.{txhzs}
use Rattle.serial.specs.Serial.{refusal_as, refusal_of}

nothing : refusal_of [] ≡ record { code = 1; bit = 0 }
unfolding refusal_of
nothing = refl

zeros : refusal_of (0 ∷ 0 ∷ 0 ∷ 0 ∷ 0 ∷ 0 ∷ 0 ∷ 0 ∷ 0 ∷ 0 ∷ 0 ∷ 0 ∷ []) ≡ record { code = 2; bit = 0 }
unfolding refusal_of field_at value_of bit digits bits_of
zeros = refl

short : refusal_of (0x24 ∷ 0x54 ∷ 0x58 ∷ 0x48 ∷ 0x5A ∷ 0 ∷ 12 ∷ 0 ∷ 0 ∷ 0 ∷ 0 ∷ 0 ∷ []) ≡ record { code = 1; bit = 0 }
unfolding refusal_of refusal_as read_message txhzs leads field_at value_of bit digits bits_of
short = refl

-- own address 2,097,152, one too many, at its first bit: 8 of `$`, 32 of the letters and 16 of the length stand before it
too_far : refusal_of (0x24 ∷ 0x47 ∷ 0x4C ∷ 0x4A ∷ 0x43 ∷ 0x00 ∷ 0x0C ∷ 0x20 ∷ 0x00 ∷ 0x00 ∷ 0x4B ∷ 0x41 ∷ []) ≡ record { code = 4; bit = 56 }
unfolding refusal_of refusal_as read_message gljcs gljc leads read read_field walk field_at value_of bit digits bits_of xor_of
too_far = refl
