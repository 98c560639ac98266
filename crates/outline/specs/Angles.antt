-- A point's latitude and longitude, in hundredths of a minute, south and west negative, by the numbers that their bits spell. Assumes nothing.
use Rattle.std.specs.Prelude.{ℕ, ◌+◌, ◌*◌, ◌/◌, ◌%◌, cond, eqb, ℤ, pos, neg_ℤ}

-- degrees, and the minutes in 6 bits and hundredths in 7 that v ends in
abbrev pub hundredths : ℕ → ℕ → ℕ
hundredths degrees v = (degrees * 60 + v / 128 % 64) * 100 + v % 128

-- the number, or its negative where the sign is not 0
abbrev pub turned : ℕ → ℕ → ℤ
turned sign m = cond (eqb sign 0) (pos m) (neg_ℤ (pos m))

-- a latitude by its 21 bits: south 1, degrees 7, minutes 6, hundredths 7
abbrev pub northing : ℕ → ℤ
northing v = turned (v / 0x10_0000 % 2) (hundredths (v / 8_192 % 128) v)

-- a longitude by its 22: west 1, degrees 8, the same
abbrev pub easting : ℕ → ℤ
easting v = turned (v / 0x20_0000 % 2) (hundredths (v / 8_192 % 256) v)
