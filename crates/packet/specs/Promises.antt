-- What `read` and `content` promise of the bytes s that they are lent; writing and correcting promise what every layout's do (format/specs/Promises). Assumes nothing.
use Rattle.std.specs.Prelude.{◌≡◌, ℕ, List, [], Result}
use Rattle.format.specs.Promises.{answered, out_of, read_record}
use Rattle.packet.specs.Packet.{packets, record_of, answer_of}
use Rattle.packet.specs.declared.reading.Packet.{Packet}
use Rattle.format.specs.declared.Refusal.{Refusal}

abbrev pub Reads : List ℕ → Result Packet Refusal → Type 0
Reads s a = out_of a ≡ answer_of (read_record packets record_of s)

-- the content bytes; none where the packet is refused
abbrev pub Shows : List ℕ → List ℕ → Type 0
Shows s c = c ≡ answered (λ r. r.1) (λ n. []) (read_record packets record_of s)
