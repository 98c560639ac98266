-- A message of either kind (paper 01, "AIS"; "Refusal numbers" for the order). Assumes nothing.
use Rattle.std.specs.Prelude.{ℕ, cond, List, leb, eqb, length}
use Rattle.bits.specs.Bits.{field_at}
use Rattle.format.specs.Message.{read_message, told}
use Rattle.format.specs.Refusals.{bare}
use Rattle.format.specs.Refusals.{Verdict}
use Rattle.area.specs.Area.{areas}
use Rattle.warning.specs.Warning.{warnings}

-- as the message of that number is read; another is 2
unfoldable pub refusal_as : ℕ → List ℕ → Verdict
refusal_as message s =
    cond (eqb message 6) (told (read_message areas s))
    (cond (eqb message 8) (told (read_message warnings s)) (bare 2))

-- the smallest size (1), then by the message's number; neither is met at a field
unfoldable pub refusal_of : List ℕ → Verdict
refusal_of s = cond (leb 23 (length s)) (refusal_as (field_at s 0 6) s) (bare 1)
