-- Text (paper 01, "Notice and packet"): bytes 0x20 to 0x7E; in Chinese also pairs of GB 2312 level one, and no half of one. Assumes nothing.
use Rattle.std.specs.Prelude.{ℕ, Bool, true, false, ◌&&◌, cond, List, [], ◌∷◌, leb, eqb}

abbrev pub plain : ℕ → Bool
plain x = leb 0x20 x && leb x 0x7E

-- 0xB0A1 to 0xD7F9, the second byte 0xA1 to 0xFE
unfoldable pub level_one : ℕ → ℕ → Bool
level_one x y = leb 0xB0 x && leb x 0xD7 && leb 0xA1 y && leb y (cond (eqb x 0xD7) 0xF9 0xFE)

unfoldable pub english : List ℕ → Bool
english [] = true
english (x ∷ s) = plain x && english s

unfoldable pub chinese : List ℕ → Bool
chinese [] = true
chinese (x ∷ []) = plain x
chinese (x ∷ y ∷ s) = cond (plain x) (chinese (y ∷ s)) (level_one x y && chinese s)

-- true: English
unfoldable pub in_language : Bool → List ℕ → Bool
in_language true s = english s
in_language false s = chinese s
