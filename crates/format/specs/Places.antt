-- Where a message goes wrong (paper 02, C-12), over any layout, without reading or writing it: every field before this one is good, and this one is not. Assumes nothing.
use Rattle.std.specs.Prelude.{ℕ, ◌+◌, ◌/◌, ◌^◌, ◌≤◌, ◌<◌, ◌≡◌, Bool, ◌⊎◌, List, [], ◌∷◌, length, take, drop}
use Rattle.bits.specs.Bits.{value_of, digits}
use Rattle.format.specs.Fmt.{good, bad, Judge, Fmt, end, field, choice, bytes, pad}

-- ---- in bits that are read

-- w bits are there, and their judge finds nothing
abbrev pub GoodField : ℕ → Judge → List ℕ → List Bool → Type 0
GoodField w j h b = (j h (take w b) ≡ good) × (w ≤ length b)

-- their judge finds the fault c, p being where; or it finds none, and the input ends in them (1, at their first bit)
abbrev pub BadField : ℕ → Judge → List ℕ → ℕ → List Bool → ℕ → ℕ → Type 0
BadField w j h at b c p = ((i : ℕ) × (j h (take w b) ≡ bad c i) × (p ≡ at + i)) ⊎ ((j h (take w b) ≡ good) × (length b < w) × (c ≡ 1) × (p ≡ at))

-- a fill that is not zero (5, at its first bit); or it is, and something else stands behind it than nothing (1, there)
abbrev pub BadEnd : ℕ → List Bool → ℕ → ℕ → Type 0
BadEnd at b c p = ((value_of (take (pad at) b) ≡ 0 → ⊥) × (c ≡ 5) × (p ≡ at)) ⊎ ((value_of (take (pad at) b) ≡ 0) × (length b ≡ pad at → ⊥) × (c ≡ 1) × (p ≡ at + pad at))

-- The first field that is bad, in the bits b from `at` on, behind the values h: its fault, and where.
unfoldable pub FirstBad : Fmt → List ℕ → ℕ → List Bool → ℕ → ℕ → Type 0
FirstBad end h at b c p = BadEnd at b c p
FirstBad (field w j m f) h at b c p = BadField w j h at b c p ⊎ (GoodField w j h b × FirstBad f (value_of (take w b) ∷ h) (at + w) (drop w b) c p)
FirstBad (choice w j f) h at b c p = BadField w j h at b c p ⊎ (GoodField w j h b × FirstBad (f (value_of (take w b))) (value_of (take w b) ∷ h) (at + w) (drop w b) c p)
FirstBad (bytes f) h at b c p = let n = length b / 8 in FirstBad (f n) (n ∷ h) at b c p

-- ---- in values that are written

-- the value has at most w bits, and their judge finds nothing
abbrev pub GoodValue : ℕ → Judge → List ℕ → ℕ → Type 0
GoodValue w j h v = (v < 2 ^ w) × (j h (digits w v) ≡ good)

-- it has more (4, at the field's first bit); or not, and the judge finds the fault c
abbrev pub BadValue : ℕ → Judge → List ℕ → ℕ → ℕ → ℕ → ℕ → Type 0
BadValue w j h at v c p = ((2 ^ w ≤ v) × (c ≡ 4) × (p ≡ at)) ⊎ ((v < 2 ^ w) × ((i : ℕ) × (j h (digits w v) ≡ bad c i) × (p ≡ at + i)))

-- The first value that is bad, from `at` on: its fault, and where its field would stand.
unfoldable pub FirstBadValue : Fmt → List ℕ → ℕ → List ℕ → ℕ → ℕ → Type 0
FirstBadValue f h at [] c p = ⊥
FirstBadValue end h at (v ∷ vs) c p = ⊥
FirstBadValue (field w j m f) h at (v ∷ vs) c p = BadValue w j h at v c p ⊎ (GoodValue w j h v × FirstBadValue f (v ∷ h) (at + w) vs c p)
FirstBadValue (choice w j f) h at (v ∷ vs) c p = BadValue w j h at v c p ⊎ (GoodValue w j h v × FirstBadValue (f v) (v ∷ h) (at + w) vs c p)
FirstBadValue (bytes f) h at (n ∷ vs) c p = FirstBadValue (f n) (n ∷ h) at vs c p
