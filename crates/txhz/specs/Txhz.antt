-- The frame TXHZ (paper 01, "Serial frames"). Assumes nothing.
use Rattle.std.specs.Prelude.{ℕ, ◌+◌, ◌*◌, Bool, cond, List, [], ◌∷◌, ltb, get_or}
use Rattle.frame.specs.Frame.{address, last_hour, last_minute, frame, frames}
use Rattle.format.specs.Fmt.{Out, accepted, refused, Fmt, end, field}
use Rattle.format.specs.Message.{Layout}
use Rattle.format.specs.Words.{◌‥◌, ◌▹◌, only, num, ago}
use Rattle.txhz.specs.declared.reading.Receipt.{Receipt}
use Rattle.txhz.specs.declared.reading.Txhz.{Txhz}

-- `TXHZ`
abbrev pub letters : ℕ
letters = 0x5458_485A

-- receipt k, from 0 on, is within the count, which stands `back` fields back
abbrev pub counted : ℕ → ℕ → List ℕ → Bool
counted k back h = ltb k (ago back h)

-- a byte of receipt k: 0 to most, or fill past the count, which may not be corrected
abbrev pub slot : ℕ → ℕ → ℕ → Fmt → Fmt
slot k back most = field 8 (λ h b. cond (counted k back h) (only 8 4 (0 ‥ most) h b) (only 8 5 (0 ‥ 0) h b)) (counted k back)

-- sent hour, sent minute, receipt hour, receipt minute
abbrev pub receipt : ℕ → Fmt → Fmt
receipt k f = slot k (4 * k) last_hour ▹ slot k (4 * k + 1) last_minute ▹ slot k (4 * k + 2) last_hour ▹ slot k (4 * k + 3) last_minute ▹ f

-- what follows the head
abbrev pub body : Fmt
body =
    address  -- receiver
    ▹ num 8 (0 ‥ 5)  -- count
    ▹ receipt 0
    ▹ receipt 1
    ▹ receipt 2
    ▹ receipt 3
    ▹ receipt 4
    ▹ end

unfoldable pub txhz : Fmt
txhz = frame letters 35 35 ▹ body

unfoldable pub txhzs : Layout
txhzs = frames letters 35 35 txhz

-- a record's values, in bit order
abbrev pub times : Receipt → List ℕ → List ℕ
times t vs = t.sent_hour ∷ t.sent_minute ∷ t.receipt_hour ∷ t.receipt_minute ∷ vs

unfoldable pub values_of : Txhz → List ℕ
values_of r =
    0x24 ∷ letters ∷ 35 ∷ r.address ∷ r.receiver ∷ r.count
    ∷ times r.first (times r.second (times r.third (times r.fourth (times r.fifth []))))

-- the receipt whose values stand from number k on
abbrev pub receipt_of : List ℕ → ℕ → Receipt
receipt_of vs k = record { sent_hour = get_or vs k 0; sent_minute = get_or vs (k + 1) 0; receipt_hour = get_or vs (k + 2) 0; receipt_minute = get_or vs (k + 3) 0 }

unfoldable pub record_of : List ℕ → Txhz
record_of vs = record {
  address = get_or vs 3 0;
  receiver = get_or vs 4 0;
  count = get_or vs 5 0;
  first = receipt_of vs 6;
  second = receipt_of vs 10;
  third = receipt_of vs 14;
  fourth = receipt_of vs 18;
  fifth = receipt_of vs 22;
}

-- how many receipts an answer's frame counts: none where it was refused
abbrev pub count_of : Out Txhz → ℕ
count_of (accepted r) = r.count
count_of (refused c p) = 0
