-- The notice's fields that have several parts, and its subtype (paper 01, "Notice and packet"; 000, 5.2.2). Assumes nothing.
use Rattle.std.specs.Prelude.{ℕ, ◌+◌, false, ◌||◌, cond, List, [], ◌∷◌, eqb}
use Rattle.format.specs.Fmt.{Fmt, field}
use Rattle.format.specs.Words.{Test, ◌‥◌, Part, part, walk, or_zero, free}

-- type 1: 1 to 10; 4: 1 to 13; 5: 1 to 8; 6: 1 to 13; 2, 3, 7, 8: 0 only
unfoldable pub subtypes : ℕ → Test
subtypes t = cond (eqb t 1) (1 ‥ 10) (cond (eqb t 4 || eqb t 6) (1 ‥ 13) (cond (eqb t 5) (1 ‥ 8) (0 ‥ 0)))

-- a subtype is judged by the type, the value before it
unfoldable pub subtype : (ℕ → Test) → Test
subtype rule [] v = false
subtype rule (t ∷ h) v = rule t h v

-- next-year bit, month, day, hour, minute
abbrev pub moment : List Part
moment = part 1 4 (0 ‥ 1) ∷ part 4 4 (1 ‥ 12) ∷ part 5 4 (1 ‥ 31) ∷ part 5 4 (0 ‥ 23) ∷ part 6 4 (0 ‥ 59) ∷ []

-- all 21 bits zero: not known, and good
abbrev pub expiry : Fmt → Fmt
expiry = field 21 (or_zero 21 (walk moment 0)) free

-- parts that are corrected as one number of n bits
abbrev pub parted : ℕ → List Part → Fmt → Fmt
parted n ps = field n (walk ps 0) free

-- the same parts where all zeros are no time: month 0 is refused
abbrev pub time : Fmt → Fmt
time = parted 21 moment

-- the bits of a latitude, of a longitude, and of a point: one behind the other
abbrev pub latitude_bits : ℕ
latitude_bits = 21

abbrev pub longitude_bits : ℕ
longitude_bits = 22

abbrev pub point_bits : ℕ
point_bits = latitude_bits + longitude_bits

-- south or west, degrees of d bits, minutes, hundredths
abbrev pub angle : ℕ → ℕ → List Part
angle d most = part 1 4 (0 ‥ 1) ∷ part d 4 (0 ‥ most) ∷ part 6 4 (0 ‥ 60) ∷ part 7 4 (0 ‥ 99) ∷ []
