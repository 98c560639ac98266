-- The frame TXSQ with one field changed, by the field's number (paper 01, "Correcting a field"). Assumes nothing.
use Rattle.std.specs.Prelude.{ℕ, cond, List, [], ◌∷◌, eqb, get_or}
use Rattle.format.specs.Fmt.{Spot, none, found}
use Rattle.txsq.specs.declared.reading.Txsq.{Txsq}

-- the fields in bit order: where each that may be corrected stands, and its width
abbrev pub spots : List Spot
spots =
    none  -- `$`
    ∷ none  -- letters
    ∷ none  -- length
    ∷ found 56 24  -- 3 own address
    ∷ none  -- 010, key 0
    ∷ found 84 2  -- 5 category
    ∷ found 86 1  -- 6 mode
    ∷ found 87 1  -- 7 password
    ∷ found 88 24  -- 8 receiver
    ∷ none  -- bit length
    ∷ found 128 8  -- 10 answer
    ∷ none  -- content
    ∷ none  -- fill
    ∷ []

abbrev pub spot_of : ℕ → Spot
spot_of i = get_or spots i none

-- the content stays
unfoldable pub changed : ℕ → ℕ → Txsq × List ℕ → Txsq × List ℕ
changed i v x = let r = x.0 in (
  record {
    address = cond (eqb i 3) v r.address;
    category = cond (eqb i 5) v r.category;
    mode = cond (eqb i 6) v r.mode;
    password = cond (eqb i 7) v r.password;
    receiver = cond (eqb i 8) v r.receiver;
    size = r.size;
    answer = cond (eqb i 10) v r.answer;
  },
  x.1,
)
