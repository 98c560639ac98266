-- The kinds of a day log's records (paper 01, "Day log listing"): each kind's word and refusals, and a record's line. Assumes nothing.
use Rattle.std.specs.Prelude.{ℕ, cond, List, length, ◌==◌}
use Rattle.format.specs.Message.{read_message, told}
use Rattle.format.specs.Refusals.{bare}
use Rattle.format.specs.Refusals.{Verdict}
use Rattle.packet.specs.Packet.{packets}
use Rattle.distress.specs.Report.{reports}
use Rattle.ais.specs.Ais.{refusal_of as ais_refusal}
use Rattle.serial.specs.Serial.{refusal_of as serial_refusal}
use Rattle.daylog.specs.LinesText.{line}
use Rattle.daylog.specs.Records.{Entry}
use Rattle.daylog.specs.Words.{serial, packet, distress, ais, unknown}

-- a kind's word
unfoldable pub word : ℕ → List ℕ
word k =
    cond (k == 1) serial
    (cond (k == 2) packet
    (cond (k == 3) distress
    (cond (k == 4) ais
    unknown)))

-- what reading a body of a kind tells: no refusal, or its number and its bit
unfoldable pub refusal_of : ℕ → List ℕ → Verdict
refusal_of k body =
    cond (k == 1) (serial_refusal body)
    (cond (k == 2) (told (read_message packets body))
    (cond (k == 3) (told (read_message reports body))
    (cond (k == 4) (ais_refusal body)
    (bare 2))))

-- the line of record number n
unfoldable pub entry_line : ℕ → Entry → List ℕ
entry_line n e = line n (word e.kind) (refusal_of e.kind e.body) (length e.body)
