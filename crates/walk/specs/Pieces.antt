-- A number made of parts, judged one by one from its highest bits down; the first refusal ends it. Assumes nothing.
use Rattle.std.specs.Prelude.{ℕ, ◌-◌, ◌*◌, ◌/◌, ◌%◌, ◌^◌, min, Bool, cond, ◌&&◌, List, [], ◌∷◌, length, ◌==◌, nat_eq, nat_le, nat_lt}
use Rattle.bits.specs.Answers.{got}
use Rattle.format.specs.Words.{Part, part}
use Rattle.format.specs.Refusals.{code_of}
use Rattle.walk.specs.declared.pieces.Pieces.{Pieces as Declared}

-- the code's number of parts as the definitions see it: the bits that there are, as a number, and how many they are; how many of them are
-- not judged yet; the number of the first refusal, 0 for none, and how many bits in the part stands that was judged last
pub record Pieces : Type 0 where
  pub v : ℕ
  pub width : ℕ
  pub left : ℕ
  pub code : ℕ
  pub into : ℕ

abbrev pub parts : Declared → Pieces
parts g = record { v = g.v; width = g.width; left = g.left; code = code_of g.verdict; into = g.into }

-- v, of w bits: too wide (4), or no part is judged yet
abbrev pub unpieced : ℕ → ℕ → Pieces
unpieced w v = record { v = v; width = w; left = w; code = cond (nat_lt v (2 ^ w)) 0 4; into = 0 }

-- of a field of w bits at bit `at`, the bits that there are
abbrev pub lying : List ℕ → ℕ → ℕ → Pieces
lying s at w = let n = min w (length s * 8 - at) in unpieced n (got s at n)

-- the next w bits
abbrev pub ahead : ℕ → Pieces → ℕ
ahead w g = g.v / 2 ^ (g.left - w) % 2 ^ w

-- past the next part, of w bits: it is there (1), and it is good (c)
unfoldable pub pieced : ℕ → ℕ → (ℕ → Bool) → Pieces → Pieces
pieced w c ok g = let clear = nat_eq g.code 0 in record {
  v = g.v;
  width = g.width;
  left = cond clear (g.left - w) g.left;
  code = cond clear (cond (nat_le w g.left) (cond (ok (ahead w g)) 0 c) 1) g.code;
  into = cond clear (g.width - g.left) g.into;
}

-- past all parts, behind the values h
unfoldable pub piecewise : List Part → List ℕ → Pieces → Pieces
piecewise [] h g = g
piecewise (part w c t ∷ ps) h g = piecewise ps (ahead w g ∷ h) (pieced w c (t h) g)

-- w zero bits are good too
abbrev pub unless_zero : ℕ → Pieces → Pieces
unless_zero w g = record { v = g.v; width = g.width; left = g.left; code = cond (g.width == w && g.v == 0) 0 g.code; into = g.into }
