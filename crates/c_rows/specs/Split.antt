-- The splitter with its language as a number, 0 Chinese and 1 English: another is 4 before anything else. Assumes nothing.
use Rattle.std.specs.Prelude.{ℕ, List, ◌≡◌}
use Rattle.format.specs.Fmt.{Out}
use Rattle.format.specs.Message.{told, leaves}
use Rattle.format.specs.Refusals.{Verdict}
use Rattle.c_rows.specs.Language.{spoken}
use Rattle.packet.specs.SplittingPromises.{splitting}

abbrev pub splitting_in : List ℕ → List ℕ → ℕ → ℕ → ℕ → Out (List ℕ)
splitting_in s c language number k = spoken language (λ english. splitting s c english number k)

-- the refusal, and t left of s
abbrev pub SplitsIn : List ℕ → List ℕ → ℕ → ℕ → ℕ → Verdict → List ℕ → Type 0
SplitsIn s c language number k code t = (code ≡ told (splitting_in s c language number k)) × (t ≡ leaves (splitting_in s c language number k) s)
