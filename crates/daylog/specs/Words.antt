-- The words of the kinds, in ASCII (paper 01, "Day log listing"). Assumes nothing.
use Rattle.std.specs.Prelude.{ℕ, List, [], ◌∷◌}

-- `serial`
abbrev pub serial : List ℕ
serial = 0x73 ∷ 0x65 ∷ 0x72 ∷ 0x69 ∷ 0x61 ∷ 0x6c ∷ []

-- `packet`
abbrev pub packet : List ℕ
packet = 0x70 ∷ 0x61 ∷ 0x63 ∷ 0x6b ∷ 0x65 ∷ 0x74 ∷ []

-- `distress`
abbrev pub distress : List ℕ
distress = 0x64 ∷ 0x69 ∷ 0x73 ∷ 0x74 ∷ 0x72 ∷ 0x65 ∷ 0x73 ∷ 0x73 ∷ []

-- `ais`
abbrev pub ais : List ℕ
ais = 0x61 ∷ 0x69 ∷ 0x73 ∷ []

-- `unknown`
abbrev pub unknown : List ℕ
unknown = 0x75 ∷ 0x6e ∷ 0x6b ∷ 0x6e ∷ 0x6f ∷ 0x77 ∷ 0x6e ∷ []
