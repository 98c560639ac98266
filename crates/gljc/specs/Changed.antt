-- The frame GLJC with one field changed, by the field's number (paper 01, "Correcting a field"). Assumes nothing.
use Rattle.std.specs.Prelude.{ℕ, cond, List, [], ◌∷◌, eqb, get_or}
use Rattle.format.specs.Fmt.{Spot, none, found}
use Rattle.gljc.specs.declared.reading.Gljc.{Gljc}

-- the fields in bit order: where each that may be corrected stands, and its width
abbrev pub spots : List Spot
spots =
    none  -- `$`
    ∷ none  -- letters
    ∷ none  -- length
    ∷ found 56 24  -- 3 own address
    ∷ found 80 8  -- 4 minutes
    ∷ []

abbrev pub spot_of : ℕ → Spot
spot_of i = get_or spots i none

unfoldable pub changed : ℕ → ℕ → Gljc → Gljc
changed i v r = record { address = cond (eqb i 3) v r.address; minutes = cond (eqb i 4) v r.minutes }
