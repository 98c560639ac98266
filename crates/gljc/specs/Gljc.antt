-- The frame GLJC (paper 01, "Serial frames"). Assumes nothing.
use Rattle.std.specs.Prelude.{ℕ, List, [], ◌∷◌, get_or}
use Rattle.frame.specs.Frame.{frame, frames}
use Rattle.format.specs.Fmt.{Fmt, end}
use Rattle.format.specs.Message.{Layout}
use Rattle.format.specs.Words.{◌‥◌, ◌▹◌, num}
use Rattle.gljc.specs.declared.reading.Gljc.{Gljc}

-- `GLJC`
abbrev pub letters : ℕ
letters = 0x474C_4A43

-- what follows the head
abbrev pub body : Fmt
body =
    num 8 (0 ‥ 255)  -- minutes
    ▹ end

unfoldable pub gljc : Fmt
gljc = frame letters 12 12 ▹ body

unfoldable pub gljcs : Layout
gljcs = frames letters 12 12 gljc

-- a record's values, in bit order
unfoldable pub values_of : Gljc → List ℕ
values_of r = 0x24 ∷ letters ∷ 12 ∷ r.address ∷ r.minutes ∷ []

unfoldable pub record_of : List ℕ → Gljc
record_of vs = record { address = get_or vs 3 0; minutes = get_or vs 4 0 }
