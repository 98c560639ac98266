-- Which refusal of a count comes first, and the most bytes of message 6, computed from the definitions.
use Rattle.std.specs.Prelude.{◌≡◌, refl}
use Rattle.format.specs.Fmt.{accepted, refused}
use Rattle.ais.specs.Slots.{first_of, slots_in, slots_for}

-- another message is refused before its bytes are counted
other_messages : (slots_for 7 0 ≡ refused 2 0) × (slots_for 6 0 ≡ refused 1 0) × (slots_for 6 117 ≡ accepted 5)
unfolding slots_for slots_in first_of
other_messages = (refl, refl, refl)
