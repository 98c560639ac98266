-- A language that is told as a number, 0 Chinese and 1 English: another is 4 before anything else (paper 01, "Notice and packet"). Assumes nothing.
use Rattle.std.specs.Prelude.{ℕ, Bool, leb, eqb}
use Rattle.format.specs.Fmt.{Out, or_bad, check}

-- what is answered in that language, English or not
abbrev pub spoken : {A : Type 0} → ℕ → (Bool → Out A) → Out A
spoken language o = check (or_bad (leb language 1) 4) 0 (o (eqb language 1))
