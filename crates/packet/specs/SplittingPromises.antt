-- What `split` promises of the bytes s that it is lent for packet number k of the content c. Assumes nothing.
use Rattle.std.specs.Prelude.{◌≡◌, ℕ, Bool, List, length, nat_lt}
use Rattle.format.specs.Fmt.{Out, or_bad, check}
use Rattle.format.specs.Message.{between, told, leaves, into, write_message}
use Rattle.format.specs.Refusals.{Verdict}
use Rattle.packet.specs.Packet.{joined, packets, values_of}
use Rattle.packet.specs.Splitter.{packet_count, packet_of}

-- the content's size (1), a packet number past the last (4), then the packet in front of s, where it has room (6)
unfoldable pub splitting : List ℕ → List ℕ → Bool → ℕ → ℕ → Out (List ℕ)
splitting s c english number k =
    check (or_bad (between 1 joined (length c)) 1) 0
    (check (or_bad (nat_lt k (packet_count (length c))) 4) 0
    (into s (write_message packets (values_of (packet_of english number c k)))))

-- the refusal, and t left of s
abbrev pub Splits : List ℕ → List ℕ → Bool → ℕ → ℕ → Verdict → List ℕ → Type 0
Splits s c english number k refusal t = (refusal ≡ told (splitting s c english number k)) × (t ≡ leaves (splitting s c english number k) s)
