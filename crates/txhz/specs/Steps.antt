-- What the code's steps over one receipt answer and leave: read, judged, put. Assumes nothing.
use Rattle.std.specs.Prelude.{ℕ, ◌+◌, ◌*◌, ◌/◌, Bool, cond, List}
use Rattle.bits.specs.Answers.{got}
use Rattle.walk.specs.Faults.{ranging}
use Rattle.format.specs.Correcting.{put_in}
use Rattle.walk.specs.Judging.{valued, filled}
use Rattle.walk.specs.Walk.{Walk, seen, onward}
use Rattle.txhz.specs.declared.reading.Passed.{Passed as Declared}
use Rattle.txhz.specs.declared.reading.Receipt.{Receipt}

-- a receipt, and the walk past it, as the definitions see them
pub record Passed : Type 0 where
  pub walk : Walk
  pub receipt : Receipt

abbrev pub passed : Declared → Passed
passed x = record { walk = seen x.walk; receipt = x.receipt }

-- a byte read, that of the walk's bit: 0 to most where the receipt is counted, else fill
abbrev pub slot_read_of : List ℕ → Bool → ℕ → Walk → Walk
slot_read_of s live most r = let p = r.at / 8 * 8 in onward 8 live (got s p 8) (ranging s p 8 0 (cond live most 0) (cond live 4 5)) 0 r

-- a receipt read: the walk past its last byte, and the value of the walk behind each
unfoldable pub receipt_read : List ℕ → Bool → Walk → Passed
receipt_read s live r =
    let a = slot_read_of s live 23 r in
    let b = slot_read_of s live 59 a in
    let c = slot_read_of s live 23 b in
    let d = slot_read_of s live 59 c in
    record { walk = d; receipt = record { sent_hour = a.v; sent_minute = b.v; receipt_hour = c.v; receipt_minute = d.v } }

-- a byte judged
abbrev pub slot_judged : Bool → ℕ → ℕ → Walk → Walk
slot_judged live v most r = cond live (valued 8 v 0 most r) (filled 8 v r)

-- a receipt judged
abbrev pub receipt_judged : Bool → Receipt → Walk → Walk
receipt_judged live t r =
    slot_judged live t.receipt_minute 59 (slot_judged live t.receipt_hour 23 (slot_judged live t.sent_minute 59 (slot_judged live t.sent_hour 23 r)))

-- a receipt put, from bit `at` on
abbrev pub receipt_put : ℕ → Receipt → List ℕ → List ℕ
receipt_put at t s =
    put_in (put_in (put_in (put_in s at 8 t.sent_hour) (at + 8) 8 t.sent_minute) (at + 16) 8 t.receipt_hour) (at + 24) 8 t.receipt_minute
