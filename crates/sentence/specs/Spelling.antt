-- Digits and what they spell: decimal, hex, and the end of a sentence. Assumes nothing.
use Rattle.std.specs.Prelude.{ℕ, zero, suc, ◌+◌, ◌*◌, ◌-◌, ◌/◌, ◌%◌, Bool, true, cond, ◌&&◌, List, [], ◌∷◌, ◌++◌, ◌≡◌, ltb, eqb, length, replicate}
use Rattle.format.specs.Message.{between}

-- the digit of n: `0` to `9`, then the letters from `ten` on
unfoldable pub figure_of : ℕ → ℕ → ℕ
figure_of ten n = cond (ltb n 10) (48 + n) (ten + (n - 10))

-- `a` to `f` after the `9`
abbrev pub lower : ℕ → ℕ
lower = figure_of 97

-- `A` to `F` after the `9`
abbrev pub upper : ℕ → ℕ
upper = figure_of 65

-- what a digit `0` to `9` or `a` to `f` counts; 16 for any other byte
unfoldable pub digit_value : ℕ → ℕ
digit_value c = cond (between 48 57 c) (c - 48) (cond (between 97 102 c) (c - 87) 16)

-- whether each byte is a digit of the base, which is 10 or 16
unfoldable pub all_digits : ℕ → List ℕ → Bool
all_digits base [] = true
all_digits base (c ∷ cs) = ltb (digit_value c) base && all_digits base cs

-- n in decimal, with no leading zero and at most k digits
unfoldable pub decimal : ℕ → ℕ → List ℕ
decimal zero n = []
decimal (suc k) n = cond (eqb n 0) [] (decimal k (n / 10) ++ (lower (n % 10) ∷ []))

-- ten characters, of which those from `from` on are the digits of n and the others 0
pub record Spells (n from : ℕ) (chars : List ℕ) : Type 0 where
  pub long : length chars ≡ 10
  pub figures : chars ≡ replicate from 0 ++ decimal 10 n

-- the number that decimal digits spell after those that spell n
unfoldable pub spelt : ℕ → List ℕ → ℕ
spelt n [] = n
spelt n (c ∷ cs) = spelt (n * 10 + digit_value c) cs

-- bytes as small hex digits, two each, and digits as bytes; what is no digit counts 0
unfoldable pub hex_of : List ℕ → List ℕ
hex_of [] = []
hex_of (b ∷ bs) = lower (b / 16) ∷ lower (b % 16) ∷ hex_of bs

unfoldable pub unhexed : List ℕ → List ℕ
unhexed [] = []
unhexed (c ∷ []) = []
unhexed (c ∷ d ∷ cs) = (digit_value c % 16 * 16 + digit_value d % 16) ∷ unhexed cs

-- what 34 digits spell; for any other count of them, zeros
abbrev pub unhexed_so : List ℕ → List ℕ
unhexed_so s = cond (eqb (length s) 34) (unhexed s) (replicate 17 0)

-- `*`, the sum in two capital hex digits, CR LF
unfoldable pub closing_of : ℕ → List ℕ
closing_of sum = 0x2A ∷ upper (sum / 16) ∷ upper (sum % 16) ∷ 13 ∷ 10 ∷ []
