-- The frame TXHZ with one field changed, by the field's number (paper 01, "Correcting a field"). Assumes nothing.
use Rattle.std.specs.Prelude.{ℕ, ◌+◌, Bool, cond, List, [], ◌∷◌, eqb, ltb, get_or}
use Rattle.format.specs.Fmt.{Spot, none, found}
use Rattle.txhz.specs.declared.reading.Receipt.{Receipt}
use Rattle.txhz.specs.declared.reading.Txhz.{Txhz}

-- the bytes of a receipt, from bit `at` on: fill where it is not counted
abbrev pub receipt_spots : Bool → ℕ → List Spot → List Spot
receipt_spots live at l =
    cond live (found at 8) none ∷ cond live (found (at + 8) 8) none ∷ cond live (found (at + 16) 8) none ∷ cond live (found (at + 24) 8) none ∷ l

-- the fields in bit order, where n receipts are counted: where each that may be corrected stands, and its width
abbrev pub spots : ℕ → List Spot
spots n =
    none  -- `$`
    ∷ none  -- letters
    ∷ none  -- length
    ∷ found 56 24  -- 3 own address
    ∷ found 80 24  -- 4 receiver
    ∷ found 104 8  -- 5 count
    ∷ receipt_spots (ltb 0 n) 112  -- 6 to 9
    (receipt_spots (ltb 1 n) 144  -- 10 to 13
    (receipt_spots (ltb 2 n) 176  -- 14 to 17
    (receipt_spots (ltb 3 n) 208  -- 18 to 21
    (receipt_spots (ltb 4 n) 240 []))))  -- 22 to 25

abbrev pub spot_of : Txhz → ℕ → Spot
spot_of r i = get_or (spots r.count) i none

-- the receipt whose first byte is field number k
abbrev pub changed_receipt : ℕ → ℕ → ℕ → Receipt → Receipt
changed_receipt k i v t = record {
  sent_hour = cond (eqb i k) v t.sent_hour;
  sent_minute = cond (eqb i (k + 1)) v t.sent_minute;
  receipt_hour = cond (eqb i (k + 2)) v t.receipt_hour;
  receipt_minute = cond (eqb i (k + 3)) v t.receipt_minute;
}

unfoldable pub changed : ℕ → ℕ → Txhz → Txhz
changed i v r = record {
  address = cond (eqb i 3) v r.address;
  receiver = cond (eqb i 4) v r.receiver;
  count = cond (eqb i 5) v r.count;
  first = changed_receipt 6 i v r.first;
  second = changed_receipt 10 i v r.second;
  third = changed_receipt 14 i v r.third;
  fourth = changed_receipt 18 i v r.fourth;
  fifth = changed_receipt 22 i v r.fifth;
}
