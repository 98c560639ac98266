-- The order of the first tests, and where a warning's fields are refused, computed from the definitions.
use Rattle.std.specs.Prelude.{◌≡◌, refl, List, [], ◌∷◌, ℕ}
use Rattle.ais_common.specs.Lead.{told}
use Rattle.bits.specs.Bits.{bit, value_of, digits, bits_of, field_at}
use Rattle.format.specs.Fmt.{read_field, read}
use Rattle.format.specs.Message.{read_message}
use Rattle.format.specs.Refusals.{bare}
use Rattle.format.specs.Words.{walk, wide}
use Rattle.area.specs.Area.{areas}
use Rattle.warning.specs.Warning.{warning, warnings}
use Rattle.ais.specs.Ais.{refusal_as, refusal_of}

nothing : refusal_of [] ≡ record { code = 1; bit = 0 }
unfolding refusal_of
nothing = refl

-- 23 bytes of a message number, 412, an application of message 6 and a shape
abbrev cut : ℕ → ℕ → List ℕ
cut last shape = 0x18 ∷ 0 ∷ 0 ∷ 0 ∷ 0 ∷ 0 ∷ 0 ∷ 0 ∷ 0 ∷ 0x67 ∷ last ∷ shape ∷ 0 ∷ 0 ∷ 0 ∷ 0 ∷ 0 ∷ 0 ∷ 0 ∷ 0 ∷ 0 ∷ 0 ∷ 0 ∷ []

-- message 6 cut to 23 bytes: 2 where its application or its shape is bad, else 1; none of them is met at a field
short : (refusal_of (cut 0x0B 0x14) ≡ bare 1) × (refusal_of (cut 0x0B 0x10) ≡ bare 2) × (refusal_of (cut 0x03 0x14) ≡ bare 2)
unfolding refusal_of refusal_as read_message areas warnings told field_at value_of bit digits bits_of
short = (refl, refl, refl)

-- message 8 that warns of fog, with the given four bytes from byte 7 on and the given last one: its longitude stands from bit 60 (6 and 2 and 30 and 2, 16 of application, 4 of type), its hours from bit 176 (8 before the end)
abbrev foggy : ℕ → ℕ → ℕ → ℕ → ℕ → List ℕ
foggy a b c d last = 0x22 ∷ 0x62 ∷ 0x97 ∷ 0xAC ∷ 0x38 ∷ 0x67 ∷ 0x03 ∷ a ∷ b ∷ c ∷ d ∷ 0x5B ∷ 0x8E ∷ 0x6A ∷ 0xC4 ∷ 0xA0 ∷ 0 ∷ 0 ∷ 0 ∷ 0x0B ∷ 0xB9 ∷ 0xAF ∷ last ∷ []

-- good; 63 hours; all ones for a longitude
fog : (refusal_of (foggy 0x47 0x0A 0x05 0x32 0x90) ≡ bare 0) × (refusal_of (foggy 0x47 0x0A 0x05 0x32 0xFC) ≡ record { code = 4; bit = 176 }) × (refusal_of (foggy 0x4F 0xFF 0xFF 0xF2 0x90) ≡ record { code = 4; bit = 60 })
unfolding refusal_of refusal_as read_message warnings told warning read read_field walk wide field_at value_of bit digits bits_of
fog = (refl, refl, refl)
