-- What a caller is told of a refusal (paper 02, C-12): its number, and the first bit of the field at fault. Assumes nothing.
use Rattle.std.specs.Prelude.{ℕ, ◌+◌, ◌*◌, ◌%◌, ◌/◌, ◌^◌, Bool, cond, ◌||◌, eqb, Result, Ok, Err}
use Rattle.format.specs.declared.Reason.{Reason}
use Rattle.format.specs.declared.Reason.TheVariants.{Size, Kind, Checksum, Range, Fill, Room, Contradicts, Taken, Incomplete, Field, Unknown}
use Rattle.format.specs.declared.Refusal.{Refusal}

-- the paper's number of each reason
abbrev pub number : Reason → ℕ
number Size = 1
number Kind = 2
number Checksum = 3
number Range = 4
number Fill = 5
number Room = 6
number Contradicts = 7
number Taken = 8
number Incomplete = 9
number Field = 10
number Unknown = 11

-- what is told of a call: the number of its refusal, 0 being none, and the bit of the field at fault
pub record Verdict : Type 0 where
  pub code : ℕ
  pub bit : ℕ

-- whether refusals of this number tell a bit: a field that does not fit, one outside its range, a fill that is not zero
abbrev pub placed : ℕ → Bool
placed c = eqb c 1 || eqb c 4 || eqb c 5

-- what is told of a refusal with the number c that arose at bit p
abbrev pub shown : ℕ → ℕ → Verdict
shown c p = record { code = c; bit = cond (placed c) p 0 }

-- of one that no field gave; 0 is none
abbrev pub bare : ℕ → Verdict
bare c = record { code = c; bit = 0 }

-- a refusal of the code by its number
abbrev pub seen_refusal : Refusal → Verdict
seen_refusal f = record { code = number f.reason; bit = f.bit }

-- what a call's outcome tells
abbrev pub told_of : {A : Type 0} → Result A Refusal → Verdict
told_of (Ok a) = bare 0
told_of (Err f) = seen_refusal f

-- the number of a test's outcome
abbrev pub code_of : {A : Type 0} → Result A Reason → ℕ
code_of (Ok a) = 0
code_of (Err r) = number r

-- both in one number, as C gets them
abbrev pub packed : Verdict → ℕ
packed r = r.code + r.bit % 2 ^ 24 * 256

-- and taken apart again
abbrev pub unpacked : ℕ → Verdict
unpacked n = record { code = n % 256; bit = n / 256 }
