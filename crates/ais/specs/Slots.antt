-- The slots that a message's data bytes need (paper 01, "AIS"; 003, tables 6 and 7). Assumes nothing.
use Rattle.std.specs.Prelude.{ℕ, suc, cond, List, [], ◌∷◌, leb, eqb}
use Rattle.format.specs.Fmt.{Out, accepted, refused}

-- the most data bytes of 1 to 5 slots: of message 6, and of message 8
abbrev pub addressed : List ℕ
addressed = 8 ∷ 36 ∷ 64 ∷ 92 ∷ 117 ∷ []

abbrev pub broadcast : List ℕ
broadcast = 12 ∷ 40 ∷ 68 ∷ 96 ∷ 121 ∷ []

-- the first limit that n does not pass, the first being number k; past all of them it is 1
unfoldable pub first_of : ℕ → List ℕ → ℕ → Out ℕ
first_of k [] n = refused 1 0
first_of k (l ∷ ls) n = cond (leb n l) (accepted k) (first_of (suc k) ls n)

-- no bytes is 1 too
unfoldable pub slots_in : List ℕ → ℕ → Out ℕ
slots_in ls n = cond (eqb n 0) (refused 1 0) (first_of 1 ls n)

-- another message is 2
unfoldable pub slots_for : ℕ → ℕ → Out ℕ
slots_for message n = cond (eqb message 6) (slots_in addressed n) (cond (eqb message 8) (slots_in broadcast n) (refused 2 0))
