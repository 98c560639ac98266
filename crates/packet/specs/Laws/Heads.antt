-- What is told of a packet is its record alone: the content is shown beside it. Assumes nothing.
use Rattle.std.specs.Prelude.{◌≡◌, List, ℕ, refl}
use Rattle.format.specs.Fmt.{Out, accepted, refused, also}
use Rattle.format.specs.Promises.{plain}
use Rattle.packet.specs.Packet.{record_of, answer_of}
use Rattle.packet.specs.declared.reading.Packet.{Packet}

-- the record of accepted values
abbrev pub head_of : List ℕ → Packet
head_of vs = (record_of vs).0

pub heads : (o : Out (List ℕ)) → plain (also head_of o) ≡ answer_of (also record_of o)
heads (accepted vs) = refl
heads (refused c p) = refl
