-- The numbers that stand in a tide telegram's records, from a bit on, whether they are good or not; how many bits they have, and where they end. Assumes nothing.
use Rattle.std.specs.Prelude.{ℕ, ◌+◌, ◌*◌, cond, List, [], ◌∷◌, eqb}
use Rattle.bits.specs.Answers.{got}
use Rattle.walk.specs.Groups.{Standing, Width, then_at, then_wide, repeat_at, repeat_end, decided_at, decided_wide}
use Rattle.notice_fields.specs.Parts.{latitude_bits, longitude_bits}
use Rattle.tide.specs.Row.{placed_bits, entry_bits}

-- the bit where the first record begins
abbrev pub front : ℕ
front = 21

-- behind the position type k
abbrev pub placed_at : List ℕ → ℕ → Standing
placed_at s k at = cond (eqb k 0) (got s at 6 ∷ []) (got s at latitude_bits ∷ got s (at + latitude_bits) longitude_bits ∷ [])

abbrev pub position_at : List ℕ → Standing
position_at s = decided_at s 1 (placed_at s)

abbrev pub position_wide : List ℕ → Width
position_wide s = decided_wide s 1 (λ k at. placed_bits k)

-- a time, a sign, a value
abbrev pub entry_at : List ℕ → Standing
entry_at s at = got s at 21 ∷ got s (at + 21) 1 ∷ got s (at + 21 + 1) 10 ∷ []

-- n entries
abbrev pub entries_at : List ℕ → ℕ → Standing
entries_at s n = repeat_at n (entry_at s) (λ at. entry_bits)

-- a record
abbrev pub record_at : List ℕ → Standing
record_at s = then_at (position_at s) (position_wide s) (then_at (λ at. got s at 1 ∷ []) (λ at. 1) (decided_at s 9 (entries_at s)))

abbrev pub record_wide : List ℕ → Width
record_wide s = then_wide (position_wide s) (then_wide (λ at. 1) (decided_wide s 9 (λ n at. n * entry_bits)))

-- n records
abbrev pub records_at : List ℕ → ℕ → Standing
records_at s n = repeat_at n (record_at s) (record_wide s)

abbrev pub records_end : List ℕ → ℕ → ℕ → ℕ
records_end s n = repeat_end n (record_wide s)
