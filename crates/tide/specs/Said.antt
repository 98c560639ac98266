-- What a tide telegram says, whatever the form: the numbers of its records, with each sign and value said as one height. Assumes nothing.
use Rattle.std.specs.Prelude.{ℕ, zero, suc, cond, List, [], ◌∷◌, eqb, ℤ, pos, drop, get_or}
use Rattle.tide.specs.Heights.{height_of}
use Rattle.tide.specs.Record.{Whole}

-- n entries, and what follows them: a time, and a height
unfoldable pub entries_said : ℕ → (next : List ℕ → List ℤ) → List ℕ → List ℤ
entries_said zero next row = next row
entries_said (suc n) next row = pos (get_or row 0 0) ∷ height_of (get_or row 1 0) (get_or row 2 0) ∷ entries_said n next (drop 3 row)

-- n records: position type, port or point, forecast mark, count, entries
unfoldable pub records_said : ℕ → List ℕ → List ℤ
records_said zero row = []
records_said (suc n) row =
    pos (get_or row 0 0)
    ∷ cond
    (eqb (get_or row 0 0) 0)
    (pos (get_or row 1 0) ∷ pos (get_or row 2 0) ∷ pos (get_or row 3 0) ∷ entries_said (get_or row 3 0) (λ r. records_said n r) (drop 4 row))
    (pos (get_or row 1 0) ∷ pos (get_or row 2 0) ∷ pos (get_or row 3 0) ∷ pos (get_or row 4 0) ∷ entries_said (get_or row 4 0) (λ r. records_said n r) (drop 5 row))

-- the whole telegram
abbrev pub said : Whole → List ℤ
said x = pos x.0.count ∷ records_said x.0.count x.1
