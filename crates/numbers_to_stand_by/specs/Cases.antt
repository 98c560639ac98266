-- The bytes and records of paper 01's "Numbers to stand by", and what the definitions answer of them, as numbers. Assumes nothing.
use Rattle.std.specs.Prelude.{ℕ, suc, ◌+◌, ◌*◌, ◌^◌, Bool, true, List, [], ◌∷◌, ◌++◌, ℤ, pos, negsuc, take}
use Rattle.bits.specs.Bits.{put_at}
use Rattle.format.specs.Fmt.{Out, after}
use Rattle.format.specs.Message.{leaves, write_message, correct_message}
use Rattle.format.specs.Promises.{answered, read_record}
use Rattle.txsq.specs.Txsq.{txsqs, record_of as txsq_of}
use Rattle.gljc.specs.Gljc.{gljcs, record_of as gljc_of}
use Rattle.distress.specs.Report.{reports, report_of, values_of as report_values}
use Rattle.distress.specs.Changed.{changed}
use Rattle.distress.specs.declared.reading.Report.{Report}
use Rattle.notice.specs.Notice.{ours, notices}
use Rattle.notice.specs.Record.{Whole, headed, record_of as notice_of, values_of as notice_values}
use Rattle.packet.specs.Packet.{packets, values_of as packet_values, record_of as packet_record}
use Rattle.places.specs.Replies.{Reply}
use Rattle.places.specs.Replies.{Done, Again, Joined, Missing, Refused}
use Rattle.desk_runs.specs.Runs.{Call, comes, empty, run, number_of, log, asked}
use Rattle.ais.specs.Slots.{slots_for}
use Rattle.outline.specs.Promises.{drawn}

-- ---- answers as numbers

-- 0 and what is told, or the refusal's number
abbrev pub told : {T : Type 0} → (T → List ℕ) → Out T → List ℕ
told f = answered (λ t. 0 ∷ f t) (λ refusal. refusal.code ∷ [])

-- nothing but 0 or the refusal's number
abbrev pub code : {T : Type 0} → Out T → List ℕ
code = told (λ t. [])

-- bytes as they are
abbrev pub bytes : Out (List ℕ) → List ℕ
bytes = told (λ s. s)

abbrev pub plus : ℕ
plus = 0

abbrev pub minus : ℕ
minus = 1

-- signed numbers, each by its sign and its size
unfoldable pub signs : List ℤ → List ℕ
signs [] = []
signs (pos n ∷ zs) = plus ∷ n ∷ signs zs
signs (negsuc n ∷ zs) = minus ∷ suc n ∷ signs zs

-- ---- A and B: serial frames

-- `24 54 58 53 51 00 14 02 00 BA 46 02 00 BA 00 10 00 A4 31 FD`: own address and bit length
abbrev pub frame_a : List ℕ
frame_a = 0x24 ∷ 0x54 ∷ 0x58 ∷ 0x53 ∷ 0x51 ∷ 0x00 ∷ 0x14 ∷ 0x02 ∷ 0x00 ∷ 0xBA ∷ 0x46 ∷ 0x02 ∷ 0x00 ∷ 0xBA ∷ 0x00 ∷ 0x10 ∷ 0x00 ∷ 0xA4 ∷ 0x31 ∷ 0xFD ∷ []

abbrev pub sender : List ℕ
sender = told (λ x. x.0.address ∷ x.0.size ∷ []) (read_record txsqs txsq_of frame_a)

-- GLJC of the day log's example, with its last byte
abbrev pub checked : ℕ → List ℕ
checked last = code (read_record gljcs gljc_of (0x24 ∷ 0x47 ∷ 0x4C ∷ 0x4A ∷ 0x43 ∷ 0x00 ∷ 0x0C ∷ 0x00 ∷ 0x00 ∷ 0x00 ∷ 0x00 ∷ last ∷ []))

-- ---- C to F: the distress report

-- `bdc1075bcd15385c8780d1ba258c8a16c0`
abbrev pub report_c : List ℕ
report_c = 0xbd ∷ 0xc1 ∷ 0x07 ∷ 0x5b ∷ 0xcd ∷ 0x15 ∷ 0x38 ∷ 0x5c ∷ 0x87 ∷ 0x80 ∷ 0xd1 ∷ 0xba ∷ 0x25 ∷ 0x8c ∷ 0x8a ∷ 0x16 ∷ 0xc0 ∷ []

abbrev pub read_report : List ℕ → Out Report
read_report = read_record reports report_of

abbrev pub position : List ℕ
position = told (λ r. signs (r.longitude ∷ r.latitude ∷ [])) (read_report report_c)

abbrev pub longitude : Out Report → List ℕ
longitude = told (λ r. signs (r.longitude ∷ []))

-- C's report at another longitude, which is field 2: its bytes with that number in them, read
abbrev pub longitude_read : ℕ → List ℕ
longitude_read n = longitude (read_report (put_at report_c 48 25 n))

-- its record with that longitude, written and read again
abbrev pub longitude_written : ℕ → List ℕ
longitude_written n = longitude (after (read_report report_c) (λ r. after (write_message reports (report_values (changed 2 n r))) read_report))

-- ---- G and H: the notice

-- source 4, station 1, serial 1, type 4, subtype 6, and so many areas, told by a row
abbrev pub notice_with : ℕ → ℕ → List ℕ → Whole
notice_with year count row = (record { source = 4; station = 1; serial = 1; year = year; kind = 4; subtype = 6; expiry = 0; count = count }, (row, []))

abbrev pub notice_bytes : ℕ → List ℕ
notice_bytes fourth = 0x20 ∷ 0x80 ∷ 0x02 ∷ fourth ∷ 0x18 ∷ 0x00 ∷ 0x00 ∷ 0x00 ∷ []

-- G has no text: it is the same in either language
abbrev pub notice_written : Bool → ℕ → List ℕ
notice_written english year = bytes (write_message (notices (ours english)) (notice_values (notice_with year 0 [])))

abbrev pub notice_read : Bool → ℕ → List ℕ
notice_read english fourth = told (λ x. headed x.0 (x.1.0 ++ x.1.1)) (read_record (notices (ours english)) notice_of (notice_bytes fourth))

-- the year is field 3
abbrev pub year_corrected : Bool → ℕ → ℕ → List ℕ
year_corrected english fourth year = bytes (correct_message (notices (ours english)) (notice_bytes fourth) 3 year)

-- ---- I and J: packets and the desk

-- a Chinese packet of message number 7, with one byte
abbrev pub packet_of : (total own : ℕ) → Out (List ℕ)
packet_of total own = write_message packets (packet_values (record { language = 0; number = 7; total = total; own = own }, 0x41 ∷ []))

abbrev pub packet_head : List ℕ
packet_head = told (take 4) (packet_of 1 0)

-- the paper's head before that byte, read: the language, the message's number, how many packets, which of them, the content
abbrev pub packet_read : List ℕ
packet_read = told (λ x. x.0.language ∷ x.0.number ∷ x.0.total ∷ x.0.own ∷ x.1) (read_record packets packet_record (0xE1 ∷ 0x20 ∷ 0x70 ∷ 0x40 ∷ 0x41 ∷ []))

-- packets 2 and 0 of three come to an empty desk
abbrev pub held : List Call
held = comes (leaves (packet_of 3 0) []) ∷ comes (leaves (packet_of 3 2) []) ∷ []

-- what a reply tells beside its number
abbrev pub tells : Reply → List ℕ
tells Done = []
tells Again = 1 ∷ []
tells (Joined n l) = n ∷ l ∷ []
tells (Missing n) = n ∷ []
tells (Refused c) = []

abbrev pub replied : Reply → List ℕ
replied a = number_of a ∷ tells a

unfoldable pub replies : List (Call × ℕ) → List ℕ
replies [] = []
replies (e ∷ es) = e.1 ∷ replies es

-- what they are answered
abbrev pub held_replies : List ℕ
held_replies = replies (log empty held)

-- what asking then answers, and what it leaves of a row of one number
abbrev pub missing : List ℕ
missing = let g = asked 7 [] (0 ∷ []) (run empty held) in replied g.reply ++ g.missing

-- ---- K: slots

abbrev pub slots : ℕ → List ℕ
slots n = told (λ k. k ∷ []) (slots_for 8 n)

-- ---- L: angles

-- the number that an angle's bits spell: south or west, degrees of d bits, minutes, hundredths
abbrev pub spelt : ℕ → ℕ → ℕ → ℕ → ℕ → ℕ
spelt d sign degrees minutes hundredths = ((sign * 2 ^ d + degrees) * 64 + minutes) * 128 + hundredths

-- S 0°00.01'
abbrev pub south : ℕ
south = spelt 7 1 0 0 1

-- W 180°60.99'
abbrev pub west : ℕ
west = spelt 8 1 180 60 99

-- both as a point of G's notice, which is written and drawn
abbrev pub outlined : List ℕ
outlined = told signs (after (write_message (notices (ours true)) (notice_values (notice_with 24 1 (1 ∷ 1 ∷ south ∷ west ∷ [])))) (λ s. drawn true s (pos 0 ∷ pos 0 ∷ [])))
