-- What a caller of the tide's calls needs to know beforehand: the most numbers and levels that a telegram has, and which field the row's first number is. Assumes nothing.
use Rattle.std.specs.Prelude.{ℕ}
use Rattle.tide.specs.declared.lending.Bounds.{Bounds}

-- of a telegram's records: the numbers in a row, and the levels
abbrev pub most_numbers : ℕ
most_numbers = 234

abbrev pub most_heights : ℕ
most_heights = 51

-- the fields before it are type, version, class and the count of records
abbrev pub first_entry_of : ℕ
first_entry_of = 4

abbrev pub limits : Bounds
limits = record { numbers = most_numbers; heights = most_heights; first_entry = first_entry_of }
