-- A record whose fields are good, with as much content as a packet holds, is a packet: it is written, and read back; and what is read is such a record. Assumes nothing.
use Rattle.std.specs.Prelude.{◌≡◌, ℕ, ◌+◌, ◌-◌, ◌*◌, ◌/◌, ◌<◌, ◌≤◌, true, ◌&&◌, List, [], length, take, drop, nat_le, slice_index, slice_index_or, refl}
use Rattle.std.proofs.Common.{sym, ap, ◌∙◌, subst, arith, lit<, le-leb}
use Rattle.bits.specs.Bits.{Bytes, value_of, digits, bits_of, bytes_of}
use Rattle.bits.specs.Laws.Bytes.{length_bits, length_bytes}
use Rattle.bits.specs.Laws.Runs.{bytes_value_lt}
use Rattle.format.specs.Fmt.{Out, accepted, refused, also}
use Rattle.format.specs.Message.{told, read_message, write_message}
use Rattle.format.specs.Promises.{read_record}
use Rattle.format.specs.Words.{any, ◌‥◌, ago}
use Rattle.format.specs.Laws.Entries.{entries}
use Rattle.format.specs.Laws.Extent.{extent}
use Rattle.format.proofs.Laws.Extent.{extent_laid}
use Rattle.format.proofs.Laws.Family.{written_record}
use Rattle.format.specs.Laws.Legal.{Legal, passed, ranged, passes}
use Rattle.format.proofs.Laws.Legal.{legal}
use Rattle.format.proofs.Laws.Round.{read_write}
use Rattle.format.proofs.Laws.Whole.{was}
use Rattle.format.proofs.Laws.Written.{legal_message}
use Rattle.packet.specs.Packet.{version, most_packets, part_bytes_of, greatest, packet, packets, values_of, record_of}
use Rattle.packet.specs.Laws.Demands.{counted, family, good as reads_good}
use Rattle.packet.specs.Laws.Shown.{shown}
use Rattle.packet.specs.Promises.{Reads}
use Rattle.std.specs.Prelude.{Ok}
use Rattle.packet.specs.Laws.Sound.{listed, read_sized}
use Rattle.packet.specs.declared.reading.Packet.{Packet}

-- what a record has to have
pub record Fit (r : Packet) (c : List ℕ) : Type 0 where
  pub language : r.language ≤ 1
  pub number : r.number < 256
  pub total : r.total ≤ most_packets
  pub own : r.own < r.total
  pub some : 1 ≤ length c
  pub few : length c ≤ part_bytes_of

within : (lo hi v : ℕ) → lo ≤ v → v ≤ hi → (nat_le lo v && nat_le v hi) ≡ true
within lo hi v a b = rw (le-leb lo v a, le-leb v hi b) refl

-- its values are good
pub fit_held : (r : Packet) (c : List ℕ) → Fit r c → Legal packet [] (values_of (r, c))
unfolding packet values_of
fit_held r c x =
    let language = x.language in
    let number = x.number in
    let total = x.total in
    let own = x.own in (
      lit< tt,
      passes 8 1 (0xE1 ‥ 0xE1) _ 0xE1 (lit< tt) refl,
      (
        lit< tt,
        passes 3 1 (version ‥ version) _ version (lit< tt) refl,
        (
          omega arith,
          passes 1 3 (0 ‥ 1) _ r.language (omega arith) (within 0 1 r.language (omega arith) language),
          (
            number,
            passes 8 3 (0 ‥ 255) _ r.number number (within 0 255 r.number (omega arith) (omega arith)),
            (
              omega arith,
              passes 6 3 (1 ‥ most_packets) _ r.total (omega arith) (within 1 most_packets r.total (omega arith) total),
              (
                omega arith,
                passes 6 3 (λ h. (0 ‥ ago 0 h - 1) h) _ r.own (omega arith) (within 0 (r.total - 1) r.own (omega arith) (omega arith)),
                (bytes_value_lt c, passes (length c * 8) 3 any _ (value_of (bits_of c)) (bytes_value_lt c) refl, tt),
              ),
            ),
          ),
        ),
      ),
    )

-- It is written, in 4 bytes and its content,
pub fit_written : (r : Packet) (c : List ℕ) → Fit r c → (m : List ℕ) × (write_message packets (values_of (r, c)) ≡ accepted m) × (length m ≡ 4 + length c)
unfolding packets packet values_of
fit_written r c x =
    let (b, e, is) = legal_message packets (values_of (r, c)) refl (fit_held r c x) (counted (r, c)) in
    let n : length b / 8 ≡ 4 + length c = ap (◌/ 8) (extent_laid packet [] 0 (values_of (r, c)) b e) ∙ omega arith in
    let m = bytes_of (length b / 8) b in
    let long : length m ≡ 4 + length c = length_bytes (length b / 8) b ∙ n in
    (m, is ∙ rw (long, le-leb 5 (4 + length c) (omega (arith, x.some)), le-leb (4 + length c) greatest (omega (arith, x.few))) refl, long)

-- and read back.
pub fit_read : (r : Packet) (c : List ℕ) → Bytes c → Fit r c → (m : List ℕ) × (write_message packets (values_of (r, c)) ≡ accepted m) × (read_record packets record_of m ≡ accepted (r, c))
fit_read r c fine x = let (m, e, long) = fit_written r c x in (m, e, written_record family (r, c) m fine e)

-- ---- the other way

-- A packet that is read is such a record.
pub read_fit : (s : List ℕ) (x : Packet × List ℕ) → read_record packets record_of s ≡ accepted x → Fit x.0 x.1
unfolding packets packet record_of entries
read_fit s x e = go (read_message packets s) refl e
  where
    fields : (vs : List ℕ) → read_message packets s ≡ accepted vs → Fit (record_of vs).0 (record_of vs).1
    fields vs o =
        let b = bits_of s in
        let w = read_write packet [] 0 vs b (was packets s vs o).walked in
        let h = legal packet [] 0 vs b w in
        let g = subst (Legal packet []) (sym (listed vs h)) h in
        let g2 = g.2.2 in
        let g4 = g2.2.2 in
        let n = slice_index_or vs 6 0 in
        let size = extent_laid packet [] 0 vs b w ∙ ap (extent packet 0) (sym (listed vs h)) in
        let sizes = read_sized s (ap (λ o. (told o).code) o) in
        let whole = length_bits s in
        let long = length_bytes n (digits (n * 8) (slice_index vs 7)) in
        let (least, own) = ranged 0 (slice_index vs 4 - 1) (slice_index vs 5) (passed 6 3 (λ h. (0 ‥ ago 0 h - 1) h) _ (slice_index vs 5) g4.2.0 g4.2.1) in
        let total = ranged 1 most_packets (slice_index vs 4) (passed 6 3 (1 ‥ most_packets) _ (slice_index vs 4) g4.0 g4.1) in
        record {
          language = (ranged 0 1 (slice_index vs 2) (passed 1 3 (0 ‥ 1) _ (slice_index vs 2) g2.0 g2.1)).1;
          number = g2.2.0;
          total = total.1;
          own = omega (arith, own, total.0);
          some = omega (arith, long, size, whole, sizes.0);
          few = omega (arith, long, size, whole, sizes.1);
        }

    go : (o : Out (List ℕ)) → read_message packets s ≡ o → also record_of o ≡ accepted x → Fit x.0 x.1
    go (accepted vs) o d = let k : record_of vs ≡ x = cc in subst (λ (y : Packet × List ℕ). Fit y.0 y.1) k (fields vs o)
    go (refused c p) o d = let z : ◌≡◌ {A = ℕ} 0 1 = cc in absurd (omega arith)

-- So is one that is answered good, with what stands behind its head.
pub read_good : (s : List ℕ) (r : Packet) → Bytes s → Reads s (Ok r) → let c = take (length s - 4) (drop 4 s) in (4 ≤ length s) × (read_record packets record_of s ≡ accepted (r, c)) × Fit r c
read_good s r fine a = let (n, shows) = shown s (Ok r) a refl fine refl in let e = reads_good s r _ a shows in (n, e, read_fit s _ e)
