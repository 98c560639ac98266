-- What the bits of records say of how they are told: how many entries and numbers, and where they stand. Assumes nothing.
use Rattle.std.specs.Prelude.{ℕ, ◌+◌, ◌*◌, cond, List, leb, length}
use Rattle.std.proofs.lemmas.List.Edits.{sets}
use Rattle.bits.specs.Answers.{got}
use Rattle.walk.specs.Groups.{repeat_sum}
use Rattle.tide.specs.Standing.{record_wide}
use Rattle.tide.specs.Row.{placed_long, placed_bits, entry_bits}
use Rattle.tide.specs.declared.row.Extent.{Extent}
use Rattle.tide.specs.declared.row.Place.{Place}
use Rattle.tide.specs.declared.row.Shape.{Shape}

-- behind the position type k
abbrev pub place_of : ℕ → Place
place_of k = record { wide = placed_bits k; long = placed_long k }

-- the record at a bit
unfoldable pub shape_at : List ℕ → ℕ → Shape
shape_at s at =
    let k = got s at 1 in
    let counted = at + (1 + placed_bits k) + 1 in
    let n = got s counted 9 in
    record { entries = n; first = counted + 9; next = counted + 9 + n * entry_bits; numbers = placed_long k + 3 + n * 3 }

-- n records
abbrev pub numbers_in : List ℕ → ℕ → ℕ → ℕ
numbers_in s n = repeat_sum n (λ at. (shape_at s at).numbers) (record_wide s)

abbrev pub entries_in : List ℕ → ℕ → ℕ → ℕ
entries_in s n = repeat_sum n (λ at. (shape_at s at).entries) (record_wide s)

abbrev pub extent_at : List ℕ → ℕ → ℕ → Extent
extent_at s n at = record { numbers = numbers_in s n at; entries = entries_in s n at }

-- numbers in front of a row that has room for them; one that has not stays
abbrev pub filled : List ℕ → List ℕ → List ℕ
filled xs row = cond (leb (length xs) (length row)) (sets row 0 xs) row
