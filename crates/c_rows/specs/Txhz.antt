-- The frame TXHZ as numbers (paper 01, "Serial frames"). Assumes nothing.
use Rattle.std.specs.Prelude.{ℕ, ◌+◌, ◌≡◌, List, [], ◌∷◌, eqb, ℤ, length, get_or}
use Rattle.c_rows.specs.Row.{entries}
use Rattle.format.specs.Fmt.{Out, or_bad, check, also}
use Rattle.format.specs.Message.{told, leaves, into, write_message}
use Rattle.format.specs.Refusals.{Verdict}
use Rattle.format.specs.Promises.{read_record}
use Rattle.txhz.specs.Txhz.{txhzs, values_of, record_of as framed}
use Rattle.txhz.specs.declared.reading.Receipt.{Receipt}
use Rattle.txhz.specs.declared.reading.Txhz.{Txhz}

-- a receipt's numbers before those that follow
abbrev pub times : Receipt → List ℕ → List ℕ
times t xs = t.sent_hour ∷ t.sent_minute ∷ t.receipt_hour ∷ t.receipt_minute ∷ xs

-- a record's numbers, in the paper's order
abbrev pub row_of : Txhz → List ℕ
row_of r = r.address ∷ r.receiver ∷ r.count ∷ times r.first (times r.second (times r.third (times r.fourth (times r.fifth []))))

-- the reading of the bytes s, as numbers
abbrev pub numbers_of : List ℕ → Out (List ℤ)
numbers_of s = also (λ r. entries (row_of r)) (read_record txhzs framed s)

-- the receipt whose bytes stand from k on
unfoldable pub receipt_at : List ℕ → ℕ → Receipt
receipt_at b k = record { sent_hour = get_or b k 0; sent_minute = get_or b (k + 1) 0; receipt_hour = get_or b (k + 2) 0; receipt_minute = get_or b (k + 3) 0 }

-- the record of the numbers and receipts that the writing call is given
abbrev pub record_of : ℕ → ℕ → ℕ → List ℕ → Txhz
record_of address receiver count b = record {
  address = address;
  receiver = receiver;
  count = count;
  first = receipt_at b 0;
  second = receipt_at b 4;
  third = receipt_at b 8;
  fourth = receipt_at b 12;
  fifth = receipt_at b 16;
}

-- the frame in front of the lent buffer s; receipts that are no 20 bytes are 1 before anything else
abbrev pub txhz_into : List ℕ → List ℕ → ℕ → ℕ → ℕ → Out (List ℕ)
txhz_into s b address receiver count = check (or_bad (eqb (length b) 20) 1) 0 (into s (write_message txhzs (values_of (record_of address receiver count b))))

-- what the writing call promises: its refusal, and the buffer t that it leaves
abbrev pub TxhzWrites : List ℕ → List ℕ → ℕ → ℕ → ℕ → Verdict → List ℕ → Type 0
TxhzWrites s b address receiver count code t = (code ≡ told (txhz_into s b address receiver count)) × (t ≡ leaves (txhz_into s b address receiver count) s)
