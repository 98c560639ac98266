-- The packet is a family of format/specs/Laws/Family, whose theorems are demands 2 and 3; said here of the packet's own promises. Assumes nothing.
use Rattle.std.specs.Prelude.{◌≡◌, ℕ, ◌+◌, ◌*◌, ◌/◌, ◌≤◌, List, [], ◌∷◌, ◌++◌, length, take, drop, slice_index, slice_index_or, refl, Result, Ok}
use Rattle.std.proofs.Common.{sym, ap, ◌∙◌, subst, arith}
use Rattle.bits.specs.Bits.{Bytes, digits, bits_of}
use Rattle.bits.specs.Laws.Bytes.{length_bits, length_bytes, bytes_below}
use Rattle.format.specs.Fmt.{accepted, also}
use Rattle.format.specs.Message.{write_message}
use Rattle.format.specs.Settled.{Settled}
use Rattle.format.specs.Refusals.{bare}
use Rattle.format.specs.Refusals.{Verdict}
use Rattle.format.specs.Promises.{answered, refused_by, out_of, read_record, Writes, Corrects}
use Rattle.format.specs.Laws.Answers.{good_shown, shown_plain}
use Rattle.format.specs.Laws.Entries.{entries}
use Rattle.format.proofs.Laws.Extent.{extent_lay, extent_laid}
use Rattle.format.specs.Laws.Family.{Family}
use Rattle.format.proofs.Laws.Family.{written_front, read_written}
use Rattle.format.specs.Laws.Legal.{Legal, exactly}
use Rattle.format.specs.Laws.Runs.{run_again, run_value}
use Rattle.format.proofs.Laws.Whole.{made}
use Rattle.format.proofs.Laws.Settled.{settled}
use Rattle.format.specs.Laws.Zero.{Judged, Counted, only_numbered}
use Rattle.format.specs.declared.Refusal.{Refusal}
use Rattle.packet.specs.Promises.{Reads, Shows}
use Rattle.packet.specs.Changed.{changed, spot_of}
use Rattle.packet.specs.Packet.{version, packet, packets, values_of, record_of, answer_of}
use Rattle.packet.specs.Laws.Correction.{spotted, changed_values}
use Rattle.packet.specs.Laws.Sound.{listed, sound}
use Rattle.packet.specs.declared.reading.Packet.{Packet}

numbers : Judged packet
unfolding packet
numbers = (only_numbered 8 1 _, (only_numbered 3 1 _, (only_numbered 1 3 _, (only_numbered 8 3 _, (only_numbered 6 3 _, (only_numbered 6 3 _, λ n. (only_numbered (n * 8) 3 _, tt)))))))

-- a record's count of bytes is that of its content
pub counted : (r : Packet × List ℕ) → Counted packet 0 (values_of r)
unfolding packet values_of
counted r = (tt, λ b e. ap (◌/ 8) (extent_lay _ 32 _ b e) ∙ omega arith)

-- accepted values are those of their record and content
same_values : (vs : List ℕ) → Legal packet [] vs → values_of (record_of vs) ≡ vs
unfolding packet values_of record_of entries
same_values vs h =
    let e = listed vs h in
    let g = subst (Legal packet []) (sym e) h in
    let kind = exactly 8 1 0xE1 _ (slice_index vs 0) g.0 g.1 in
    let edition = exactly 3 1 version _ (slice_index vs 1) g.2.0 g.2.1 in
    let n = slice_index_or vs 6 0 in
    let long = length_bytes n (digits (n * 8) (slice_index vs 7)) in
    let run = run_value n (slice_index vs 7) g.2.2.2.2.2.2.0 in
    (λ x. sym kind x ∷ sym edition x ∷ slice_index vs 2 ∷ slice_index vs 3 ∷ slice_index vs 4 ∷ slice_index vs 5 ∷ long x ∷ run x ∷ []) ∙ e

pub family : Family packets (Packet × List ℕ) (λ r. Bytes r.1) values_of record_of changed
unfolding packets values_of record_of changed
family = record {
  sound = sound;
  judged = numbers;
  counted = λ r k. counted r;
  same_record = λ r k h. ap (λ c. (r.0, c)) (run_again r.1 k);
  same_values = same_values;
  can_lend = λ vs h. bytes_below (slice_index vs 6) _;
  changes = λ r i v p w k e n. (changed_values r i v p w (sym (spotted r i) ∙ e), k);
}

-- ---- said of the packet's promises

-- an answer that is good, with the content that is shown, is an accepted reading
pub good : (s : List ℕ) (r : Packet) (c : List ℕ) → Reads s (Ok r) → Shows s c → read_record packets record_of s ≡ accepted (r, c)
good s r c = good_shown accepted refused_by (λ o. o) (λ q. refl) (λ c. refl) (read_record packets record_of s)

-- a packet that is written has 4 bytes before its content
pub written_long : (r : Packet × List ℕ) (m : List ℕ) → write_message packets (values_of r) ≡ accepted m → length m ≡ 4 + length r.1
unfolding packets packet values_of
written_long r m e =
    let x = made packets m (values_of r) e in
    omega (arith, extent_laid packet [] 0 (values_of r) (bits_of x.inside) x.wrote, length_bits x.inside, ap length x.closes)

-- What is written is read back as the same record, and the same content is shown.
pub written_reads : (s : List ℕ) (r : Packet) (c t : List ℕ) → Bytes c → Writes packets s (bare 0) t (values_of (r, c)) → let m = take (4 + length c) t in Reads m (Ok r) × Shows m c
written_reads s r c t fine w =
    let e = written_front family s (r, c) t (4 + length c) fine w (written_long (r, c)) in
    (sym (ap answer_of e), sym (ap (answered (λ r. r.1) (λ n. [])) e))

-- What is read and shown is written back as the same bytes.
pub read_writes_back : (s : List ℕ) (r : Packet) (c : List ℕ) → Bytes s → Reads s (Ok r) → Shows s c → (u : List ℕ) (code : Verdict) (t : List ℕ) → length s ≤ length u → Writes packets u code t (values_of (r, c))
    → (code ≡ bare 0) × (t ≡ s ++ drop (length s) u)
read_writes_back s r c fine a b = read_written family s (r, c) fine (good s r c a b)

-- Demand 3: every correction of a packet, by any number and any value; the content c that it shows stays.
pub corrected : (s : List ℕ) (a : Result Packet Refusal) (c : List ℕ) → Bytes s → Reads s a → Shows s c → (i v : ℕ) (code : Verdict) (t : List ℕ) → Corrects packets s i v code t
    → Settled packets (λ r. spot_of) values_of changed s (also (λ r. (r, c)) (out_of a)) i v code t
corrected s a c fine reads shows i v code t x =
    settled family (λ r. spot_of) spotted s fine i v code t x (also (λ r. (r, c)) (out_of a)) (shown_plain accepted refused_by (λ o. o) (λ q. refl) (λ c. refl) (read_record packets record_of s) reads shows)
