-- The definitions at work: each line computes.
use Rattle.std.specs.Prelude.{◌≡◌, ℕ, refl}
use Rattle.packet.specs.Packet.{joined}
use Rattle.packet.specs.Splitter.{packet_count, next_number}

-- 12,978 bytes make 63 packets; 206 make one, and one byte more makes two
longest : ◌≡◌ {A = ℕ} joined 12_978
longest = refl

all_packets : packet_count joined ≡ 63
all_packets = refl

one_packet : packet_count 206 ≡ 1
one_packet = refl

two_packets : packet_count 207 ≡ 2
two_packets = refl

after_255 : next_number 255 ≡ 0
after_255 = refl
