-- The packet (paper 01, "Notice and packet"; 000, 5.1.2 and 5.2.2.2). Assumes nothing.
use Rattle.std.specs.Prelude.{ℕ, ◌+◌, ◌-◌, ◌*◌, false, ◌&&◌, List, [], ◌∷◌, length, ◌==◌, slice_index, slice_index_or}
use Rattle.bits.specs.Bits.{value_of, digits, bits_of, bytes_of, field_at}
use Rattle.format.specs.Fmt.{Out, accepted, Fmt, end, field, bytes}
use Rattle.format.specs.Message.{Layout, led, between}
use Rattle.format.specs.Promises.{answered, refused_by}
use Rattle.format.specs.Words.{any, ◌‥◌, ◌▹◌, only, kept, num, code, ago}
use Rattle.packet.specs.declared.reading.Packet.{Packet}

-- the one version that is handled
abbrev pub version : ℕ
version = 1

-- the greatest total
abbrev pub most_packets : ℕ
most_packets = 63

-- the most bytes of content in a packet
abbrev pub part_bytes_of : ℕ
part_bytes_of = 206

-- the greatest size of a packet: 4 bytes before its content
abbrev pub greatest : ℕ
greatest = 4 + part_bytes_of

-- the most bytes of content in a whole notice
abbrev pub joined : ℕ
joined = most_packets * part_bytes_of

-- ---- the layout

-- all whole bytes that are left
abbrev pub content : Fmt
content = bytes λ n. field (n * 8) (only (n * 8) 4 any) kept end

unfoldable pub packet : Fmt
packet =
    code 8 0xE1
    ▹ code 3 version
    ▹ num 1 (0 ‥ 1)  -- language: 0 Chinese, 1 English
    ▹ num 8 (0 ‥ 255)  -- message number
    ▹ num 6 (1 ‥ most_packets)  -- total
    ▹ num 6 (λ h. (0 ‥ ago 0 h - 1) h)  -- own number, 0 to total − 1
    ▹ content

-- the smallest size, 5 (1); 0xE1 and the version (2); the greatest size (1)
unfoldable pub packets : Layout
packets = record {
  lead = led 5 (λ s. (field_at s 0 8 == 0xE1) && field_at s 8 3 == version) (λ s. between 5 greatest (length s));
  kind = λ vs. 0;
  least = 5;
  most = greatest;
  seal = false;
  fmt = packet;
}

-- ---- the record

-- the values of a record and its content, in bit order
unfoldable pub values_of : Packet × List ℕ → List ℕ
values_of x =
    let r = x.0 in
    let c = x.1 in
    0xE1 ∷ version ∷ r.language ∷ r.number ∷ r.total ∷ r.own ∷ length c ∷ value_of (bits_of c) ∷ []

unfoldable pub record_of : List ℕ → Packet × List ℕ
record_of vs = (
  record { language = slice_index vs 2; number = slice_index vs 3; total = slice_index vs 4; own = slice_index vs 5 },
  let n = slice_index_or vs 6 0 in bytes_of n (digits (n * 8) (slice_index vs 7)),
)

-- the paper's refusals, and the record; the content is shown beside it
abbrev pub answer_of : Out (Packet × List ℕ) → Out Packet
answer_of = answered (λ r. accepted r.0) refused_by
