-- The text of a line, in ASCII (paper 01, "Day log listing"). Assumes nothing.
use Rattle.std.specs.Prelude.{ℕ, zero, suc, ◌+◌, ◌/◌, ◌%◌, cond, List, [], ◌∷◌, ◌++◌, nat_lt}
use Rattle.format.specs.Refusals.{Verdict}

-- n in decimal, of at most f digits: those of n / 10 where it is 10 or more, then the last
unfoldable pub digits_by : ℕ → ℕ → List ℕ
digits_by zero n = []
digits_by (suc f) n = cond (nat_lt n 10) [] (digits_by f (n / 10)) ++ ((48 + n % 10) ∷ [])

-- n has at most n + 1 digits
unfoldable pub decimal : ℕ → List ℕ
decimal n = digits_by (n + 1) n

-- columns: number, word, code, bytes, bit; a space between two, a line feed at the end
unfoldable pub line : ℕ → List ℕ → Verdict → ℕ → List ℕ
line n word refusal bytes =
    decimal n ++ (32 ∷ (word ++ (32 ∷ (decimal refusal.code ++ (32 ∷ (decimal bytes ++ (32 ∷ (decimal refusal.bit ++ (10 ∷ [])))))))))
