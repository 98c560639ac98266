-- The splitter (paper 01, "Notice and packet"; 000, 5.1.2): the packets of a content. Assumes nothing.
use Rattle.std.specs.Prelude.{ℕ, zero, suc, ◌+◌, ◌-◌, ◌*◌, ◌/◌, ◌%◌, Bool, cond, List, [], ◌∷◌, ◌++◌, length, take, drop}
use Rattle.packet.specs.Packet.{part_bytes_of}
use Rattle.packet.specs.declared.reading.Packet.{Packet}

-- how many packets n bytes of content make, the last with the rest
abbrev pub packet_count : ℕ → ℕ
packet_count n = (n + (part_bytes_of - 1)) / part_bytes_of

-- the bytes of packet number k
abbrev pub part_of : List ℕ → ℕ → List ℕ
part_of c k = take part_bytes_of (drop (k * part_bytes_of) c)

-- packet number k of the content c: its record, and its bytes
abbrev pub packet_of : Bool → ℕ → List ℕ → ℕ → Packet × List ℕ
packet_of english number c k = (record { language = cond english 1 0; number = number; total = packet_count (length c); own = k }, part_of c k)

-- n packets from number k on
unfoldable pub packets_from : ℕ → ℕ → Bool → ℕ → List ℕ → List (Packet × List ℕ)
packets_from zero k english number c = []
packets_from (suc n) k english number c = packet_of english number c k ∷ packets_from n (suc k) english number c

-- all of them
abbrev pub packets_of : Bool → ℕ → List ℕ → List (Packet × List ℕ)
packets_of english number c = packets_from (packet_count (length c)) 0 english number c

-- what packets hold, joined in their order
unfoldable pub joined_of : List (Packet × List ℕ) → List ℕ
joined_of [] = []
joined_of (p ∷ ps) = p.1 ++ joined_of ps

-- the next message number: after 255 it is 0
abbrev pub next_number : ℕ → ℕ
next_number number = (number + 1) % 256
