-- The numbers of a field's faults, and of the closing's, from the bytes. Assumes nothing.
use Rattle.std.specs.Prelude.{ℕ, ◌+◌, ◌-◌, ◌*◌, ◌/◌, ◌%◌, ◌^◌, cond, ◌&&◌, ◌||◌, List, length, ◌==◌, nat_le}
use Rattle.bits.specs.Answers.{within, got}
use Rattle.format.specs.Fmt.{pad}

-- not there is 1; c where the number is out of its limits
abbrev pub ranging : List ℕ → ℕ → ℕ → ℕ → ℕ → ℕ → ℕ
ranging s at w lo hi c = cond (within (length s) at w) (cond (nat_le lo (got s at w) && nat_le (got s at w) hi) 0 c) 1

abbrev pub signing : List ℕ → ℕ → ℕ → ℕ → ℕ → ℕ → ℕ
signing s at w top bottom none = cond (within (length s) at w) (cond (nat_le (got s at w) top || nat_le bottom (got s at w) || got s at w == none) 0 4) 1

-- a fill's, by its halves
abbrev pub blanking : List ℕ → ℕ → ℕ → ℕ
blanking s at w = cond (within (length s) ((at + w / 2) % 2 ^ 64) (w - w / 2)) (cond (got s at (w / 2) == 0) (cond (got s ((at + w / 2) % 2 ^ 64) (w - w / 2) == 0) 0 5) 5) 1

-- the whole bytes of s from bit `at` on
abbrev pub wholly : List ℕ → ℕ → ℕ
wholly s at = (length s * 8 - at) / 8

-- 5 where a bit up to the next whole byte is set, 1 where that is not the end of s
unfoldable pub closes : List ℕ → ℕ → ℕ
closes s at = cond (got s at (pad at) == 0) (cond (at / 8 + (at % 8 + 7) / 8 == length s) 0 1) 5
