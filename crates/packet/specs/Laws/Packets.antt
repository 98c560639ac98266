-- The packets of a content: each is good and is read back, joined in order they are the content, and `split` gives each of them or the paper's refusal. Assumes nothing.
use Rattle.std.specs.Prelude.{◌≡◌, ℕ, zero, suc, ◌+◌, ◌*◌, ◌<◌, ◌≤◌, Bool, true, false, cond, ◌&&◌, List, ◌++◌, length, take, drop, ◌≢◌, nat_le, nat_lt}
use Rattle.std.proofs.Math.Path.{refl, sym, ap}
use Rattle.std.proofs.Common.{◌∙◌, length-take, length-drop, take_all, drop-drop, leb-true, ltb-true}
use native.Mathlib.Omega.{arith}
use Rattle.std.proofs.Math.Seq.{take-add}
use Rattle.bits.specs.Bits.{Bytes}
use Rattle.bits.specs.Laws.Bytes.{bytes_take, bytes_drop}
use Rattle.format.specs.Fmt.{Out, accepted, or_bad, check}
use Rattle.format.specs.Message.{between, told, leaves, into, write_message}
use Rattle.format.specs.Promises.{read_record, Writes}
use Rattle.format.specs.Refusals.{bare}
use Rattle.format.specs.Refusals.{Verdict}
use Rattle.format.specs.Laws.Refusals.{told_none}
use Rattle.format.specs.Laws.Family.{refused_stands}
use Rattle.packet.specs.Packet.{part_bytes_of, joined, packets, values_of, record_of}
use Rattle.packet.specs.Promises.{Reads, Shows}
use Rattle.packet.specs.Laws.Accepted.{Fit, fit_written, fit_read}
use Rattle.packet.specs.Laws.Demands.{written_reads}
use Rattle.std.specs.Prelude.{Ok}
use Rattle.packet.specs.SplittingPromises.{splitting, Splits}
use Rattle.packet.specs.Splitter.{packet_count, part_of, packet_of, packets_from, packets_of, joined_of}

module _ (english : Bool) (number : ℕ) (c : List ℕ) where
  -- ---- joined in order

  joined_from : (n k : ℕ) → joined_of (packets_from n k english number c) ≡ take (n * part_bytes_of) (drop (k * part_bytes_of) c)
  unfolding packets_from joined_of
  joined_from zero k = refl
  joined_from (suc n) k =
      let next : suc k * part_bytes_of ≡ k * part_bytes_of + part_bytes_of = omega arith in
      let more : suc n * part_bytes_of ≡ part_bytes_of + n * part_bytes_of = omega arith in
      ap (part_of c k ++◌) (joined_from n (suc k) ∙ ap (λ i. take (n * part_bytes_of) (drop i c)) next ∙ ap (take (n * part_bytes_of)) (sym (drop-drop part_bytes_of (k * part_bytes_of) c)))
      ∙ sym (ap (λ i. take i (drop (k * part_bytes_of) c)) more ∙ take-add part_bytes_of (n * part_bytes_of) (drop (k * part_bytes_of) c))

  -- The packets of a content, joined in order, are the content.
  pub packets_joined : joined_of (packets_of english number c) ≡ c
  packets_joined = joined_from (packet_count (length c)) 0 ∙ take_all (packet_count (length c) * part_bytes_of) c (omega arith)

  -- ---- each is good

  part_bytes : (k : ℕ) → Bytes c → Bytes (part_of c k)
  part_bytes k fine = bytes_take part_bytes_of (drop (k * part_bytes_of) c) (bytes_drop (k * part_bytes_of) c fine)

  module _ (some : 1 ≤ length c) (few : length c ≤ joined) (narrow : number < 256) (k : ℕ) (last : k < packet_count (length c)) where
    packet_fit : Fit (packet_of english number c k).0 (part_of c k)
    packet_fit = record {
      language = one english;
      number = narrow;
      total = omega arith;
      own = last;
      some = omega (arith, length-take part_bytes_of (drop (k * part_bytes_of) c), length-drop (k * part_bytes_of) c);
      few = omega (arith, length-take part_bytes_of (drop (k * part_bytes_of) c));
    }
      where
        one : (x : Bool) → cond x 1 0 ≤ 1
        one true = omega arith
        one false = omega arith

    -- Each packet of a content is one that reading accepts, as that record and that part of the content.
    pub packet_accepted : Bytes c → let p = packet_of english number c k in (m : List ℕ) × (write_message packets (values_of p) ≡ accepted m) × (read_record packets record_of m ≡ accepted p)
    packet_accepted fine = fit_read (packet_of english number c k).0 (part_of c k) (part_bytes k fine) packet_fit

    pub packet_long : let p = packet_of english number c k in (m : List ℕ) × (write_message packets (values_of p) ≡ accepted m) × (length m ≡ 4 + length p.1)
    packet_long = fit_written (packet_of english number c k).0 (part_of c k) packet_fit

  -- ---- what `split` answers

  module _ (s : List ℕ) (k : ℕ) (code : Verdict) (t : List ℕ) (e : Splits s c english number k code t) where
    -- The content's size (1), a number past the last packet (4), room (6), and no other refusal: none has a bit.
    pub split_code : number < 256 → code ≡ bare (cond (between 1 joined (length c)) (cond (nat_lt k (packet_count (length c))) (cond (nat_le (4 + length (part_of c k)) (length s)) 0 6) 4) 1)
    unfolding splitting
    split_code narrow = e.0 ∙ go (nat_le 1 (length c)) (nat_le (length c) joined) (nat_lt k (packet_count (length c))) refl refl refl
      where
        room : (m : List ℕ) (y : Bool) → told (check (or_bad y 6) 0 (accepted m)) ≡ bare (cond y 0 6)
        room m true = refl
        room m false = refl

        go : (x y z : Bool) → nat_le 1 (length c) ≡ x → nat_le (length c) joined ≡ y → nat_lt k (packet_count (length c)) ≡ z
            → told (check (or_bad (x && y) 1) 0 (check (or_bad z 4) 0 (into s (write_message packets (values_of (packet_of english number c k))))))
            ≡ bare (cond (x && y) (cond z (cond (nat_le (4 + length (part_of c k)) (length s)) 0 6) 4) 1)
        go false y z ex ey ez = refl
        go true false z ex ey ez = refl
        go true true false ex ey ez = refl
        go true true true ex ey ez =
            let (m, is, long) = packet_long (leb-true 1 (length c) ex) (leb-true (length c) joined ey) narrow k (ltb-true k (packet_count (length c)) ez) in
            rw (is, long) (room _ (nat_le (4 + length (part_of c k)) (length s)))

    -- A refusal leaves every byte.
    pub split_refused : (code.code ≢ 0) → t ≡ s
    split_refused h = refused_stands (splitting s c english number k) s t code e.0 e.1 h

    -- What is accepted was written,
    pub split_writes : code.code ≡ 0 → Writes packets s (bare 0) t (values_of (packet_of english number c k))
    unfolding splitting
    split_writes z = go (between 1 joined (length c)) (nat_lt k (packet_count (length c))) (sym (told_none (splitting s c english number k) e.0 z) ∙ e.0) e.1
      where
        o : Out (List ℕ)
        o = into s (write_message packets (values_of (packet_of english number c k)))

        go : (x y : Bool) → bare 0 ≡ told (check (or_bad x 1) 0 (check (or_bad y 4) 0 o)) → t ≡ leaves (check (or_bad x 1) 0 (check (or_bad y 4) 0 o)) s → (bare 0 ≡ told o) × (t ≡ leaves o s)
        go true true a b = (a, b)
        go true false a b = absurd (omega (arith, ap (λ r. r.code) a))
        go false y a b = absurd (omega (arith, ap (λ r. r.code) a))

    -- and stands in front of what is left: it is read as that packet's record, and shows that part of the content.
    pub split_reads : Bytes c → code.code ≡ 0 → let p = packet_of english number c k in let m = take (4 + length p.1) t in Reads m (Ok p.0) × Shows m p.1
    split_reads fine z = written_reads s (packet_of english number c k).0 (part_of c k) t (part_bytes k fine) (split_writes z)

    -- Two answers that the promise allows are equal.
    pub one_split : (code' : Verdict) (t' : List ℕ) → Splits s c english number k code' t' → (code ≡ code') × (t ≡ t')
    one_split code' t' e' = (e.0 ∙ sym e'.0, e.1 ∙ sym e'.1)
