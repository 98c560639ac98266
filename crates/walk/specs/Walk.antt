-- The code's walk as the definitions see it: its start, and its step past a field. Assumes nothing.
use Rattle.std.specs.Prelude.{ℕ, ◌+◌, ◌-◌, ◌%◌, ◌^◌, Bool, true, false, cond, ◌&&◌, ◌==◌, Option, Some, None, is_some}
use Rattle.format.specs.Refusals.{Verdict, told_of}
use Rattle.walk.specs.declared.walk.Spot.{Spot}
use Rattle.walk.specs.declared.walk.Walk.{Walk as Declared}
use Rattle.walk.specs.declared.making.Stepped.{Stepped as DeclaredStepped}

-- where the next field starts; the number of the first refusal, 0 for none, and its bit; the value of the field just walked; whether
-- a field is still sought, and how many fields before it are left; whether it was found and may be corrected, where it stood, and its width,
-- 0 for both where there is none
pub record Walk : Type 0 where
  pub at : ℕ
  pub code : ℕ
  pub offset : ℕ
  pub v : ℕ
  pub seek : Bool
  pub left : ℕ
  pub found : Bool
  pub spot : ℕ
  pub width : ℕ

-- how many fields are left before the sought one, and where a field stands: 0 for none
abbrev pub left_of : Option ℕ → ℕ
left_of (Some n) = n
left_of None = 0

abbrev pub at_of : Option Spot → ℕ
at_of (Some x) = x.at
at_of None = 0

abbrev pub width_of : Option Spot → ℕ
width_of (Some x) = x.width
width_of None = 0

abbrev pub seen : Declared → Walk
seen w = record {
  at = w.at;
  code = (told_of w.verdict).code;
  offset = (told_of w.verdict).bit;
  v = w.v;
  seek = is_some w.sought;
  left = left_of w.sought;
  found = is_some w.spot;
  spot = at_of w.spot;
  width = width_of w.spot;
}

abbrev pub begun : ℕ → ℕ → Walk
begun code want = record { at = 0; code = code; offset = 0; v = 0; seek = true; left = want; found = false; spot = 0; width = 0 }

-- the first refusal, behind the fault c (0 for none) of what stands i bits on
abbrev pub sticks : ℕ → ℕ → Walk → Verdict
sticks c i r = record { code = cond (r.code == 0) c r.code; bit = cond (r.code == 0) (cond (c == 0) 0 ((r.at + i) % 2 ^ 64)) r.offset }

-- whether the next field is the sought one
abbrev pub hits : Walk → Bool
hits r = r.seek && r.left == 0

-- over a field of w bits and the value v, with the fault c (0 for none) i bits in
unfoldable pub onward : ℕ → Bool → ℕ → ℕ → ℕ → Walk → Walk
onward w free v c i r = record {
  at = (r.at + w) % 2 ^ 64;
  code = (sticks c i r).code;
  offset = (sticks c i r).bit;
  v = v;
  seek = r.seek && cond (r.left == 0) false true;
  left = r.left - 1;
  found = cond (hits r) free r.found;
  spot = cond (hits r) (cond free r.at 0) r.spot;
  width = cond (hits r) (cond free w 0) r.width;
}

-- the walk behind what was judged of a row of numbers, and which of them comes next
pub record Stepped : Type 0 where
  pub walk : Walk
  pub next : ℕ

abbrev pub stepped : DeclaredStepped → Stepped
stepped x = record { walk = seen x.walk; next = x.next }
