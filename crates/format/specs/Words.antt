-- The words in which layouts are written. Assumes nothing.
use Rattle.std.specs.Prelude.{ℕ, ◌+◌, ◌-◌, ◌^◌, Bool, true, false, ◌&&◌, ◌||◌, List, [], ◌∷◌, leb, eqb, length, take, drop, get_or}
use Rattle.bits.specs.Bits.{value_of}
use Rattle.format.specs.Fmt.{Fault, good, bad, Judge, Fmt, field, choice, pad}

-- whether a value is good, given the values before it, the latest first
abbrev pub Test : Type 0
Test = List ℕ → ℕ → Bool

abbrev pub any : Test
any h v = true

infix 40 ◌‥◌
abbrev pub ◌‥◌ : ℕ → ℕ → Test
(lo ‥ hi) h v = leb lo v && leb v hi

-- two's complement of w bits: from −m to m, or the value for none
abbrev pub signed : ℕ → ℕ → ℕ → Test
signed w m none h v = leb v m || leb (2 ^ w - m) v || eqb v none

-- some bits of a field, their refusal, and when they are good
pub data Part : Type 0 where
  part : (w code : ℕ) → Test → Part

abbrev pub or_else : Fault → Fault → Fault
or_else good y = y
or_else (bad c i) y = bad c i

abbrev pub unless : Bool → ℕ → ℕ → Fault
unless true c i = good
unless false c i = bad c i

-- the parts one by one: each is there (1) and good
unfoldable pub walk : List Part → ℕ → Judge
walk [] i h b = good
walk (part w c t ∷ ps) i h b =
    let v = value_of (take w b) in
    or_else (unless (leb w (length b)) 1 i) (or_else (unless (t h v) c i) (walk ps (i + w) (v ∷ h) (drop w b)))

unfoldable pub wide : List Part → ℕ
wide [] = 0
wide (part w c t ∷ ps) = w + wide ps

-- as j says, but w zero bits are good
unfoldable pub or_zero : ℕ → Judge → Judge
or_zero w j h b = unzero (eqb (length b) w && eqb (value_of b) 0) (j h b)
  where
    unzero : Bool → Fault → Fault
    unzero true x = good
    unzero false x = x

infixr 20 ◌▹◌
abbrev pub ◌▹◌ : (Fmt → Fmt) → Fmt → Fmt
(f ▹ g) = f g

abbrev pub free : List ℕ → Bool
free h = true

abbrev pub kept : List ℕ → Bool
kept h = false

-- one number
abbrev pub only : ℕ → ℕ → Test → Judge
only w c t = walk (part w c t ∷ []) 0

abbrev pub num : ℕ → Test → Fmt → Fmt
num w t = field w (only w 4 t) free

-- several parts that are corrected as one number
abbrev pub group : List Part → Fmt → Fmt
group ps = field (wide ps) (walk ps 0) free

-- one number under two tests, each with its refusal
abbrev pub twice : ℕ → ℕ → Test → ℕ → Test → Judge
twice w c t d u h b = or_else (only w c t h b) (only w d u h b)

-- a number that decides what follows
abbrev pub deciding : ℕ → Test → (ℕ → Fmt) → Fmt
deciding w t = choice w (only w 4 t)

-- a fixed code, and fill
abbrev pub code : ℕ → ℕ → Fmt → Fmt
code w n = field w (only w 2 (n ‥ n)) kept

abbrev pub fill : ℕ → Fmt → Fmt
fill w = field w (only w 5 (0 ‥ 0)) kept

-- w bits of content, any of them, and the fill that makes them whole bytes
abbrev pub content : ℕ → Fmt → Fmt
content w f = field w (only w 4 any) kept (fill (pad w) f)

-- the value that stands n fields back
abbrev pub ago : ℕ → List ℕ → ℕ
ago n h = get_or h n 0
