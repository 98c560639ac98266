-- The frame TXSQ is a family of format/specs/Laws/Family, whose theorems are demands 2 and 3; said here of the frame's own promises. Assumes nothing.
use Rattle.std.specs.Prelude.{◌≡◌, refl, Bool, true, false, cond, List, [], ◌∷◌, ◌++◌, ℕ, ◌+◌, ◌*◌, ◌≤◌, ◌<◌, ◌^◌, ◌-◌, eqb, length, get_or, take, drop}
use Rattle.std.proofs.Common.{sym, ap, ◌∙◌, subst, arith, lit<, eqb-true, length-take-le}
use Rattle.bits.specs.Bits.{Bytes, digits, bits_of}
use Rattle.frame.specs.Frame.{bytes_for, content_of}
use Rattle.frame.specs.Laws.Content.{fits_content, declared_fits, content_again, content_first, content_fill, content_long, content_bytes}
use Rattle.frame.specs.Laws.Alone.{answered_alone}
use Rattle.frame.specs.Laws.Head.{head_numbered}
use Rattle.frame.specs.Laws.Sound.{frame_sound}
use Rattle.format.specs.Fmt.{accepted, also, good as Fmt·good, pad, read}
use Rattle.format.specs.Words.{code, twice, ago}
use Rattle.format.specs.Laws.Answers.{good_shown, shown_plain}
use Rattle.format.specs.Laws.Entries.{entries, legal_entries}
use Rattle.format.specs.Laws.Extent.{extent}
use Rattle.format.proofs.Laws.Extent.{extent_laid}
use Rattle.format.specs.Laws.Family.{Family}
use Rattle.format.proofs.Laws.Family.{written_front, read_written}
use Rattle.format.specs.Laws.Legal.{Legal, exactly, passed_twice}
use Rattle.format.proofs.Laws.Legal.{legal}
use Rattle.format.proofs.Laws.Round.{read_write}
use Rattle.format.proofs.Laws.Settled.{settled}
use Rattle.format.specs.Laws.Zero.{Judged, only_numbered, twice_numbered}
use Rattle.format.specs.Settled.{Settled}
use Rattle.format.specs.Refusals.{bare}
use Rattle.format.specs.Refusals.{Verdict}
use Rattle.format.specs.Promises.{answered, read_record, refused_by, out_of, plain, Writes, Corrects}
use Rattle.format.specs.Message.{write_message}
use Rattle.format.proofs.Laws.Whole.{was, write_read_message}
use Rattle.bits.specs.Laws.Bytes.{length_bits}
use Rattle.format.specs.declared.Refusal.{Refusal}
use Rattle.std.specs.Prelude.{Result, Ok}
use Rattle.txsq.specs.Promises.{Reads, Shows}
use Rattle.txsq.specs.Changed.{changed, spot_of}
use Rattle.txsq.specs.Txsq.{letters, rest, body, allowed, limits, filling, txsq, txsqs, values_of, record_of}
use Rattle.txsq.specs.Laws.Correction.{spotted, changed_values}
use Rattle.txsq.specs.declared.reading.Txsq.{Txsq}

numbers : Judged txsq
unfolding txsq
numbers =
    let after : (l : ℕ) → Judged (rest l) = λ l. (only_numbered 8 3 _, (only_numbered l 3 _, (only_numbered (pad l) 4 _, tt))) in
    let all : Judged body = (only_numbered 4 1 _, (only_numbered 2 3 _, (only_numbered 1 3 _, (only_numbered 1 3 _, (only_numbered 24 3 _, (twice_numbered 16 3 0 _ _, after)))))) in
    head_numbered letters 0 65_535 body all

pub allowed_below : (with most n : ℕ) → 0 < n → most < n → allowed with most < n
allowed_below with most n some l = go (eqb with 0)
  where
    go : (t : Bool) → cond t 0 most < n
    go true = some
    go false = l

-- a good bit length makes the frame's length
sized : (h : List ℕ) (l : ℕ) → l < 2 ^ 16 → twice 16 4 limits 1 filling h (digits 16 l) ≡ Fmt·good → ago 6 h ≡ 18 + bytes_for l
sized h l n e = eqb-true (ago 6 h) (18 + bytes_for l) (passed_twice 16 3 0 limits filling h l n e).1

-- accepted values, entry by entry
pub listed : (vs : List ℕ) → Legal txsq [] vs → entries 0 13 vs ≡ vs
unfolding txsq
listed vs h = legal_entries txsq 13 vs (λ l. tt) h

-- the length is that of the bit length
pub fit : (vs : List ℕ) → Legal txsq [] vs → get_or vs 2 0 ≡ 18 + bytes_for (get_or vs 9 0)
unfolding txsq entries
fit vs h =
    let bits = (subst (Legal txsq []) (sym (listed vs h)) h).2.2.2.2.2.2.2.2.2 in
    sized _ (get_or vs 9 0) bits.0 bits.1

-- accepted values are those of their record and content
same_values : (vs : List ℕ) → Legal txsq [] vs → values_of (record_of vs) ≡ vs
unfolding txsq values_of record_of entries
same_values vs h =
    let e = listed vs h in
    let g = subst (Legal txsq []) (sym e) h in
    let dollar = exactly 8 1 0x24 _ (get_or vs 0 0) g.0 g.1 in
    let named = exactly 32 1 letters _ (get_or vs 1 0) g.2.0 g.2.1 in
    let class = g.2.2.2.2 in
    let key = exactly 4 1 0b0100 _ (get_or vs 4 0) class.0 class.1 in
    let bits = class.2.2.2.2.2 in
    let l = get_or vs 9 0 in
    let carried = bits.2.2 in
    let long = declared_fits 18 (length (content_of l (get_or vs 11 0) (get_or vs 12 0))) l (get_or vs 2 0) (content_long l (get_or vs 11 0) (get_or vs 12 0)) (fit vs h) g.2.2.0 in
    let first = content_first l (get_or vs 11 0) (get_or vs 12 0) carried.0 carried.2.0 in
    let fill = content_fill l (get_or vs 11 0) (get_or vs 12 0) carried.0 carried.2.0 in
    (λ x. sym dollar x
    ∷ sym named x
    ∷ long x
    ∷ get_or vs 3 0
    ∷ sym key x
    ∷ get_or vs 5 0
    ∷ get_or vs 6 0
    ∷ get_or vs 7 0
    ∷ get_or vs 8 0
    ∷ l
    ∷ get_or vs 10 0
    ∷ first x
    ∷ fill x
    ∷ [])
    ∙ e

-- what its fields accept has the bytes that its length says, but the seal
pub long : (b : List Bool) (vs : List ℕ) → read txsq [] 0 b ≡ accepted vs → (get_or vs 2 0 * 8 ≡ length b + 8) × (12 ≤ get_or vs 2 0)
unfolding txsq entries
long b vs e =
    let w = read_write txsq [] 0 vs b e in
    let h = legal txsq [] 0 vs b w in
    let n = extent_laid txsq [] 0 vs b w ∙ ap (extent txsq 0) (sym (listed vs h)) in
    (omega (arith, n, fit vs h), omega (arith, fit vs h))

-- the content that a record is lent with has the size of its bit length
pub content_size : (r : Txsq × List ℕ) → Legal txsq [] (values_of r) → length r.1 ≡ bytes_for r.0.size
unfolding txsq values_of
content_size r h =
    let bits = h.2.2.2.2.2.2.2.2.2 in
    fits_content 18 (length r.1) r.0.size (lit< tt) (sized _ r.0.size bits.0 bits.1)

pub family : Family txsqs (Txsq × List ℕ) (λ r. Bytes r.1) values_of record_of changed
unfolding txsqs txsq values_of record_of changed
family = record {
  sound = frame_sound letters 0 65_535 _ 18 228 (lit< tt) long;
  judged = numbers;
  counted = λ r k. tt;
  same_record = λ r k h. ap (λ c. (r.0, c)) (content_again r.1 r.0.size k (content_size r h));
  same_values = same_values;
  can_lend = λ vs h. content_bytes (get_or vs 9 0) (get_or vs 11 0) (get_or vs 12 0);
  changes = λ r i v p w k e n. (changed_values r i v p w (sym (spotted r i) ∙ e), k);
}

-- ---- said of the frame's promises

-- an answer that is good, with the content that is shown, is an accepted reading
pub good : (s : List ℕ) (r : Txsq) (c : List ℕ) → Reads s (Ok r) → Shows s c → read_record txsqs record_of s ≡ accepted (r, c)
good s r c e = let o = read_record txsqs record_of s in good_shown accepted refused_by (λ a. a) (λ q. refl) (λ c. refl) o (e ∙ answered_alone o)

-- a frame that is written has 18 bytes besides its content
written_long : (r : Txsq × List ℕ) (m : List ℕ) → write_message txsqs (values_of r) ≡ accepted m → length m ≡ 18 + length r.1
unfolding txsqs values_of
written_long r m e =
    let vs = values_of r in
    let b = bits_of (take (length m - 1) m) in
    let walked : read txsq [] 0 b ≡ accepted vs = (was txsqs m vs (write_read_message txsqs family.sound m vs e)).walked in
    let h = legal txsq [] 0 vs b (read_write txsq [] 0 vs b walked) in
    let n : length b ≡ (length m - 1) * 8 = length_bits (take (length m - 1) m) ∙ ap (◌* 8) (length-take-le (length m - 1) m (omega arith)) in
    omega (arith, (long b vs walked).0, fit vs h, content_size r h, n)

-- What is written is read back as the same record, and the same content is shown.
pub written_reads : (s : List ℕ) (r : Txsq) (c t : List ℕ) → Bytes c → Writes txsqs s (bare 0) t (values_of (r, c)) → let m = take (18 + length c) t in Reads m (Ok r) × Shows m c
written_reads s r c t fine w =
    let e = written_front family s (r, c) t (18 + length c) fine w (written_long (r, c)) in
    (sym (ap (λ o. plain (also (λ r. r.0) o)) e), sym (ap (answered (λ r. r.1) (λ n. [])) e))

-- What is read and shown is written back as the same bytes.
pub read_writes_back : (s : List ℕ) (r : Txsq) (c : List ℕ) → Bytes s → Reads s (Ok r) → Shows s c → (u : List ℕ) (code : Verdict) (t : List ℕ) → length s ≤ length u → Writes txsqs u code t (values_of (r, c))
    → (code ≡ bare 0) × (t ≡ s ++ drop (length s) u)
read_writes_back s r c fine a b = read_written family s (r, c) fine (good s r c a b)

-- Demand 3: every correction of a frame TXSQ, by any number and any value; the content c that it shows stays.
pub corrected : (s : List ℕ) (a : Result Txsq Refusal) (c : List ℕ) → Bytes s → Reads s a → Shows s c → (i v : ℕ) (code : Verdict) (t : List ℕ) → Corrects txsqs s i v code t
    → Settled txsqs (λ r. spot_of) values_of changed s (also (λ r. (r, c)) (out_of a)) i v code t
corrected s a c fine reads shows i v code t x =
    let o = read_record txsqs record_of s in
    settled family (λ r. spot_of) spotted s fine i v code t x (also (λ r. (r, c)) (out_of a)) (shown_plain accepted refused_by (λ a. a) (λ q. refl) (λ c. refl) o (reads ∙ answered_alone o) shows)
