-- The frame TXHZ is a family of format/specs/Laws/Family, whose theorems are demands 2 and 3; said here of the frame's own promises. Assumes nothing.
use Rattle.std.specs.Prelude.{◌≡◌, refl, Bool, List, [], ◌∷◌, ◌++◌, ℕ, ◌+◌, ◌*◌, ◌≤◌, length, get_or, take, drop}
use Rattle.std.proofs.Common.{sym, ap, ◌∙◌, subst, arith, lit<}
use Rattle.bits.specs.Bits.{Bytes}
use Rattle.frame.specs.Laws.Head.{head_numbered}
use Rattle.frame.specs.Laws.Sound.{frame_sound}
use Rattle.format.specs.Fmt.{accepted, end, read}
use Rattle.format.specs.Settled.{Settled}
use Rattle.format.specs.Refusals.{bare}
use Rattle.format.specs.Refusals.{Verdict}
use Rattle.format.specs.Promises.{read_record, out_of, plain, Writes, Corrects}
use Rattle.format.specs.Laws.Answers.{plain_good}
use Rattle.format.specs.Laws.Entries.{entries, legal_entries}
use Rattle.format.proofs.Laws.Extent.{extent_laid}
use Rattle.format.specs.Laws.Family.{Family}
use Rattle.format.proofs.Laws.Family.{one_size, written_front, read_written}
use Rattle.format.specs.Laws.Legal.{Legal, exactly}
use Rattle.format.proofs.Laws.Legal.{legal}
use Rattle.format.proofs.Laws.Round.{read_write}
use Rattle.format.proofs.Laws.Settled.{settled}
use Rattle.format.specs.Laws.Zero.{Judged, only_numbered}
use Rattle.txhz.specs.Changed.{spot_of, changed}
use Rattle.txhz.specs.Txhz.{letters, receipt, body, txhz, txhzs, times, receipt_of, values_of, record_of}
use Rattle.txhz.specs.Promises.{Reads}
use Rattle.txhz.specs.Laws.Correction.{spotted, changed_values}
use Rattle.txhz.specs.Laws.Receipts.{receipt_numbered}
use Rattle.txhz.specs.declared.reading.Txhz.{Txhz}
use Rattle.format.specs.declared.Refusal.{Refusal}
use Rattle.std.specs.Prelude.{Result, Ok}

-- accepted values are those of their record: `$`, letters and length are as they must be
same_values : (vs : List ℕ) → Legal txhz [] vs → values_of (record_of vs) ≡ vs
unfolding txhz values_of record_of entries
same_values vs h =
    let e = legal_entries txhz 26 vs tt h in
    let g = subst (Legal txhz []) (sym e) h in
    let dollar = exactly 8 1 0x24 _ (get_or vs 0 0) g.0 g.1 in
    let named = exactly 32 1 letters _ (get_or vs 1 0) g.2.0 g.2.1 in
    let long = exactly 16 0 35 _ (get_or vs 2 0) g.2.2.0 g.2.2.1 in
    (λ x. sym dollar x ∷ sym named x ∷ sym long x ∷ get_or vs 3 0 ∷ get_or vs 4 0 ∷ get_or vs 5 0
    ∷ times (receipt_of vs 6) (times (receipt_of vs 10) (times (receipt_of vs 14) (times (receipt_of vs 18) (times (receipt_of vs 22) []))))) ∙ e

-- what its fields accept has 34 bytes, and says 35
long : (b : List Bool) (vs : List ℕ) → read txhz [] 0 b ≡ accepted vs → (get_or vs 2 0 * 8 ≡ length b + 8) × (12 ≤ get_or vs 2 0)
unfolding txhz values_of
long b vs e =
    let w = read_write txhz [] 0 vs b e in
    let n = extent_laid txhz [] 0 vs b w in
    let d : get_or vs 2 0 ≡ 35 = sym (ap (λ vs. get_or vs 2 0) (same_values vs (legal txhz [] 0 vs b w))) in
    (omega (arith, n, d), omega (arith, d))

numbers : Judged txhz
unfolding txhz
numbers =
    let r4 = receipt_numbered 4 end tt in
    let r3 = receipt_numbered 3 (receipt 4 end) r4 in
    let r2 = receipt_numbered 2 (receipt 3 (receipt 4 end)) r3 in
    let r1 = receipt_numbered 1 (receipt 2 (receipt 3 (receipt 4 end))) r2 in
    let r0 = receipt_numbered 0 (receipt 1 (receipt 2 (receipt 3 (receipt 4 end)))) r1 in
    let all : Judged body = (only_numbered 24 3 _, (only_numbered 8 3 _, r0)) in
    head_numbered letters 35 35 body all

pub family : Family txhzs Txhz (λ r. Unit) values_of record_of changed
unfolding txhzs txhz values_of record_of
family = record {
  sound = frame_sound letters 35 35 _ 35 35 (lit< tt) long;
  judged = numbers;
  counted = λ r k. tt;
  same_record = λ r k h. refl;
  same_values = same_values;
  can_lend = λ vs h. tt;
  changes = λ r i v p w k e n. (changed_values r i v p w (sym (spotted r i) ∙ e), tt);
}

-- ---- said of the frame's promises

-- an answer that is good is an accepted reading
pub good : (s : List ℕ) (r : Txhz) → Reads s (Ok r) → read_record txhzs record_of s ≡ accepted r
good s r e = plain_good (read_record txhzs record_of s) (sym e)

-- What is written is read back as the same record.
pub written_reads : (s : List ℕ) (r : Txhz) (t : List ℕ) → Writes txhzs s (bare 0) t (values_of r) → Reads (take 35 t) (Ok r)
unfolding txhzs
written_reads s r t w = sym (ap plain (written_front family s r t 35 tt w (one_size txhzs 35 refl refl (values_of r))))

-- What is read is written back as the same bytes.
pub read_writes_back : (s : List ℕ) (r : Txhz) → Bytes s → Reads s (Ok r) → (u : List ℕ) (code : Verdict) (t : List ℕ) → length s ≤ length u → Writes txhzs u code t (values_of r)
    → (code ≡ bare 0) × (t ≡ s ++ drop (length s) u)
read_writes_back s r fine a = read_written family s r fine (good s r a)

-- Demand 3: every correction of a frame TXHZ, by any number and any value.
pub corrected : (s : List ℕ) (a : Result Txhz Refusal) → Bytes s → Reads s a → (i v : ℕ) (code : Verdict) (t : List ℕ) → Corrects txhzs s i v code t → Settled txhzs spot_of values_of changed s (out_of a) i v code t
corrected s a fine reads i v code t c = settled family spot_of spotted s fine i v code t c (out_of a) reads
