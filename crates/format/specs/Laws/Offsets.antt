-- Where the values of an accepted message stand: the n-th is the number that its bits spell, behind the fields before it. Assumes nothing.
use Rattle.std.specs.Prelude.{ℕ, zero, suc, ◌+◌, drop, get_or}
use mathlib.Core.List.{List}
use Rattle.format.specs.Fmt.{Fmt, end, field, choice, bytes}

-- what follows n fields of the values vs
abbrev pub behind : ℕ → Fmt → List ℕ → Fmt
behind zero f vs = f
behind (suc n) end vs = end
behind (suc n) (field w j m f) vs = behind n f (drop 1 vs)
behind (suc n) (choice w j f) vs = behind n (f (get_or vs 0 0)) (drop 1 vs)
behind (suc n) (bytes f) vs = behind n (f (get_or vs 0 0)) (drop 1 vs)

-- and where it begins, from bit k on
abbrev pub reach : ℕ → Fmt → List ℕ → ℕ → ℕ
reach zero f vs k = k
reach (suc n) end vs k = k
reach (suc n) (field w j m f) vs k = reach n f (drop 1 vs) (k + w)
reach (suc n) (choice w j f) vs k = reach n (f (get_or vs 0 0)) (drop 1 vs) (k + w)
reach (suc n) (bytes f) vs k = reach n (f (get_or vs 0 0)) (drop 1 vs) k
