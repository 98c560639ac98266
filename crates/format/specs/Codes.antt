-- Messages that begin with codes, and have a least and a greatest size: tested in that order, before the fields. Assumes nothing.
use Rattle.std.specs.Prelude.{ℕ, ◌+◌, Bool, true, false, ◌&&◌, List, [], ◌∷◌, length}
use Rattle.bits.specs.Bits.{field_at}
use Rattle.format.specs.Fmt.{Fmt, field}
use Rattle.format.specs.Message.{Layout, led, between}
use Rattle.format.specs.Words.{◌‥◌, only, kept}

-- w bits that tell what the message is, from lo to hi
pub data Code : Type 0 where
  coded : (w lo hi : ℕ) → Code

abbrev pub just : ℕ → ℕ → Code
just w n = coded w n n

-- as fields that may not be corrected: another is 2
unfoldable pub codes : List Code → Fmt → Fmt
codes [] f = f
codes (coded w lo hi ∷ cs) f = field w (only w 2 (lo ‥ hi)) kept (codes cs f)

-- whether they stand in the bytes s, from bit `at` on
unfoldable pub there : List Code → ℕ → List ℕ → Bool
there [] at s = true
there (coded w lo hi ∷ cs) at s = between lo hi (field_at s at w) && there cs (at + w) s

-- the smallest size (1), the codes (2), the greatest size (1), then the fields; and writing's first test
unfoldable pub headed : List Code → ℕ → ℕ → (List ℕ → ℕ) → Fmt → Layout
headed cs lo hi kind f = record {
  lead = led lo (there cs 0) (λ s. between lo hi (length s));
  kind = kind;
  least = lo;
  most = hi;
  seal = false;
  fmt = codes cs f;
}
