-- The records of a day log (paper 01, "Day log listing"). Assumes nothing.
use Rattle.std.specs.Prelude.{ℕ, zero, suc, ◌+◌, ◌-◌, ◌*◌, cond, List, [], ◌∷◌, length, take, drop, nat_le, slice_index}
use Rattle.format.specs.Message.{between}
use Rattle.daylog.specs.declared.records.Next.{Next}
use Rattle.daylog.specs.declared.records.Next.TheVariants.{Record, Bad, Short}

-- the 16-bit number at offset i, its low byte first
abbrev pub pair_at : List ℕ → ℕ → ℕ
pair_at s i = slice_index s i + slice_index s (i + 1) * 256

-- what the bytes s begin with: the length of the whole record (4 to 256) and the kind, then that many bytes in all
unfoldable pub front : List ℕ → Next
front s =
    cond (nat_le 4 (length s))
    (cond (between 4 256 (pair_at s 0)) (cond (nat_le (pair_at s 0) (length s)) (Record (pair_at s 2) (pair_at s 0 - 4)) Short) Bad)
    Short

pub record Entry : Type 0 where
  pub kind : ℕ
  pub body : List ℕ

-- the record that the bytes s begin with, and those after it
abbrev pub opened : Next → List ℕ → (List ℕ → List Entry) → List Entry
opened (Record k n) s rest = record { kind = k; body = take n (drop 4 s) } ∷ rest (drop (4 + n) s)
opened Bad s rest = []
opened Short s rest = []

-- the whole records that the bytes s begin with, at most f
unfoldable pub records_by : ℕ → List ℕ → List Entry
records_by zero s = []
records_by (suc f) s = opened (front s) s (records_by f)

-- a record has at least one byte
unfoldable pub records : List ℕ → List Entry
records s = records_by (length s) s

unfoldable pub size_of : List Entry → ℕ
size_of [] = 0
size_of (e ∷ es) = (4 + length e.body) + size_of es
