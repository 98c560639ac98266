-- A byte that starts at any bit of one byte and ends in the next. Assumes nothing.
use Rattle.std.specs.Prelude.{ℕ, ◌+◌, ◌*◌, ◌-◌, ◌/◌, ◌%◌, ◌^◌}

-- the eight bits of two bytes from bit `at % 8` on
abbrev pub across_of : ℕ → ℕ → ℕ → ℕ
across_of high low at = (high * 256 + low) / 2 ^ (8 - at % 8) % 256
