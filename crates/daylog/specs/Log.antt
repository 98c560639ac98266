-- The day log (paper 01, "Day log listing"): the lines of its records, and the listing. Assumes nothing.
use Rattle.std.specs.Prelude.{ℕ, zero, suc, ◌+◌, ◌-◌, ◌%◌, ◌^◌, List, [], ◌∷◌, ◌++◌, length}
use Rattle.format.specs.Refusals.{bare}
use Rattle.daylog.specs.Kinds.{entry_line}
use Rattle.daylog.specs.LinesText.{line}
use Rattle.daylog.specs.Text.{head, broken}
use Rattle.daylog.specs.Records.{Entry, records, size_of}

-- The number after n. Records are counted modulo 2 ^ 64, and no log has so many.
abbrev pub after : ℕ → ℕ
after n = (n + 1) % 2 ^ 64

unfoldable pub after_all : ℕ → List Entry → ℕ
after_all n [] = n
after_all n (e ∷ es) = after_all (after n) es

unfoldable pub lines : ℕ → List Entry → List ℕ
lines n [] = []
lines n (e ∷ es) = entry_line n e ++ lines (after n) es

-- where bytes are left after the whole records, they are a broken record
abbrev pub ending_of : ℕ → ℕ → List ℕ
ending_of n zero = []
ending_of n (suc left) = line n broken (bare 1) (suc left)

-- the lines of the bytes s, the first record being number n
unfoldable pub listing_from : ℕ → List ℕ → List ℕ
listing_from n s = lines n (records s) ++ ending_of (after_all n (records s)) (length s - size_of (records s))

-- the whole listing of a log
unfoldable pub listing : List ℕ → List ℕ
listing s = head ++ listing_from 1 s
