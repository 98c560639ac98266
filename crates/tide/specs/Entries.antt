-- Good entries of a tide record passed many at once: when the 32 bits of an entry are good, and what passing some of n entries promises. Assumes nothing.
use Rattle.std.specs.Prelude.{ℕ, zero, suc, ◌+◌, ◌-◌, ◌*◌, ◌/◌, ◌%◌, ◌^◌, ◌≤◌, ◌<◌, ◌≡◌, true, cond, List, eqb}
use Rattle.bits.specs.Answers.{got}
use Rattle.walk.specs.Groups.{repeat_walked}
use Rattle.walk.specs.Walk.{Walk, seen}
use Rattle.tide.specs.Row.{entry_bits}
use Rattle.tide.specs.Steps.{entry_step}
use Rattle.tide.specs.declared.entries.Run.{Run as Declared}

-- month, day, hour and minute; and sign and value, which are not all zeros
abbrev pub Good : ℕ → Type 0
Good v = (1 ≤ v / 2 ^ 27 % 16) × (v / 2 ^ 27 % 16 ≤ 12) × (1 ≤ v / 2 ^ 22 % 32) × (v / 2 ^ 17 % 32 ≤ 23) × (v / 2 ^ 11 % 64 ≤ 59) × (1 ≤ v % 2_048)

-- the fields of an entry, time, sign and value, as one number
abbrev pub word_at : List ℕ → ℕ → ℕ
word_at s at = got s at 21 * 2_048 + (got s (at + 21) 1 * 1_024 + got s (at + 21 + 1) 10)

-- n entries from a bit on
abbrev pub AllGood : List ℕ → ℕ → ℕ → Type 0
AllGood s at n = (i : ℕ) → i < n → Good (got s (at + i * entry_bits) 32)

-- the field that is sought, if any, is none of the next n
abbrev pub Unsought : ℕ → Walk → Type 0
Unsought n r = r.seek ≡ true → n ≤ r.left

-- the walk behind m entries that are good and not sought: the last field is a value of ten bits
unfoldable pub passed : List ℕ → ℕ → Walk → Walk
passed s zero r = r
passed s (suc m) r = record {
  at = r.at + suc m * entry_bits;
  code = 0;
  offset = 0;
  v = got s (r.at + m * entry_bits + 22) 10;
  seek = r.seek;
  left = r.left - suc m * 3;
  found = r.found;
  spot = r.spot;
  width = r.width;
}

-- the walk behind some entries, and how many they are
pub record Run : Type 0 where
  pub walk : Walk
  pub count : ℕ

abbrev pub run : Declared → Run
run x = record { walk = seen x.walk; count = x.count }

-- Some of n entries are passed: what is left to do behind them is what there was to do, and a refused one ends the walk. Both sides are whole walks, code and offset included: so `records::walk` promises the walk field by field (`records_walked`), and what is told of a refusal has the same number and bit by the quick way as by the slow one (`walked_told`).
abbrev pub Passes : List ℕ → ℕ → Walk → Run → Type 0
Passes s n r x = (1 ≤ x.count) × (x.count ≤ n)
    × ((next : Walk → Walk) → repeat_walked n (entry_step s) next r ≡ cond (eqb x.walk.code 0) (repeat_walked (n - x.count) (entry_step s) next x.walk) x.walk)
