-- Texts that pass and texts that do not, computed from the definitions.
use Rattle.std.specs.Prelude.{true, false, [], ◌∷◌, ◌≡◌, refl}
use Rattle.text.specs.Text.{level_one, english, chinese, in_language}

-- "Gale 9~"
english_text : in_language true (0x47 ∷ 0x61 ∷ 0x6C ∷ 0x65 ∷ 0x20 ∷ 0x39 ∷ 0x7E ∷ []) ≡ true
unfolding in_language english
english_text = refl

-- two pairs
chinese_text : in_language false (0xB4 ∷ 0xF3 ∷ 0xB7 ∷ 0xE7 ∷ []) ≡ true
unfolding in_language chinese level_one
chinese_text = refl

-- pairs with plain characters between them, at any byte
mixed_text : in_language false (0x39 ∷ 0xB4 ∷ 0xF3 ∷ 0x20 ∷ 0xB7 ∷ 0xE7 ∷ []) ≡ true
unfolding in_language chinese level_one
mixed_text = refl

no_pair_in_english : in_language true (0xB4 ∷ 0xF3 ∷ []) ≡ false
unfolding in_language english
no_pair_in_english = refl

half_a_pair : in_language false (0xB4 ∷ 0xF3 ∷ 0xB7 ∷ []) ≡ false
unfolding in_language chinese level_one
half_a_pair = refl

last_of_level_one : in_language false (0xD7 ∷ 0xF9 ∷ []) ≡ true
unfolding in_language chinese level_one
last_of_level_one = refl

past_level_one : in_language false (0xD7 ∷ 0xFA ∷ []) ≡ false
unfolding in_language chinese level_one
past_level_one = refl

no_line_feed : in_language true (0x47 ∷ 0x0A ∷ []) ≡ false
unfolding in_language english
no_line_feed = refl

no_line_feed_chinese : in_language false (0x47 ∷ 0x0A ∷ []) ≡ false
unfolding in_language chinese level_one
no_line_feed_chinese = refl
