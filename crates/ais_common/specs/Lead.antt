-- The first tests of an AIS message (paper 01, "Refusal numbers" and "AIS"). Assumes nothing.
use Rattle.std.specs.Prelude.{ℕ, ◌+◌, ◌*◌, Bool, cond, ◌&&◌, List, leb, eqb, length}
use Rattle.bits.specs.Bits.{field_at}
use Rattle.format.specs.Message.{between}
use Rattle.ais_common.specs.declared.head.Asked.{Asked}
use Rattle.ais_common.specs.declared.head.Head.{Head}

-- authority 412 in 10 bits and an application in 6, as one number
abbrev pub application : ℕ → ℕ
application n = 412 * 64 + n

-- what tells a message's kind: its number, the application with which its data begin, and the choice of w bits at its offset
abbrev pub head_of : ℕ → ℕ → ℕ → List ℕ → Head
head_of start offset w s = record { message = field_at s 0 6; application = field_at s start 16; choice = field_at s offset w }

abbrev pub handled : Asked → Head → Bool
handled a h = eqb h.message a.message && eqb h.application a.application && between 1 a.choices h.choice

-- n bytes of that head: the smallest size, 23 (1); the kind (2); then that kind's size (1)
unfoldable pub told : Asked → ℕ → Head → ℕ
told a n h = cond (leb 23 n) (cond (handled a h) (cond (between a.bytes a.bytes n) 0 1) 2) 1

abbrev pub leads : Asked → (List ℕ → Head) → List ℕ → ℕ
leads a head s = told a (length s) (head s)
