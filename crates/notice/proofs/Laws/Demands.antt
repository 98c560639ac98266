-- The notice is a family of format/specs/Laws/Family, whose theorems are demands 2 and 3; said here of the notice's own promises, and once more of the expiry, whose correction must leave the count of areas. Assumes nothing.
use Rattle.std.specs.Prelude.{◌≡◌, refl, false, List, [], ◌∷◌, ◌++◌, ℕ, ◌*◌, ◌≤◌, ◌<◌, ◌^◌, length, drop, Ok}
use Rattle.std.proofs.Common.{sym, ap, ap₂, ◌∙◌, subst, lit≤}
use Rattle.std.proofs.Math.Path.{subst⁻¹}
use Rattle.bits.specs.Bits.{Bytes, digits, field_at}
use Rattle.bits.specs.Laws.Bytes.{length_bytes, bytes_below}
use Rattle.format.specs.Message.{ahead}
use Rattle.format.specs.Promises.{Writes, Corrects}
use Rattle.format.specs.Refusals.{bare, Verdict}
use Rattle.format.specs.Laws.Family.{Family}
use Rattle.format.proofs.Laws.Family.{written_read, read_written}
use Rattle.format.specs.Settled.{Differs}
use Rattle.format.proofs.Laws.Settled.{accepted_correction}
use Rattle.format.specs.Laws.Legal.{Legal}
use Rattle.format.specs.Laws.Runs.{run_value}
use Rattle.format.specs.Laws.Groups.{told_exact, exact_told}
use Rattle.notice_fields.specs.Laws.Instances.{some_areas}
use Rattle.notice_fields.specs.Row.{areas_told}
use Rattle.notice.specs.Changed.{spot_of, changed}
use Rattle.notice_fields.specs.Terms.{Terms, our_point}
use Rattle.notice.specs.Notice.{notice, notices}
use Rattle.notice.specs.Promises.{told_of, Reads}
use Rattle.notice.specs.Record.{Whole, headed, texted, values_of, head_of, text_of, record_of}
use Rattle.notice.specs.declared.reading.Notice.{Notice}
use Rattle.notice.specs.declared.reading.Told.{Told}
use Rattle.notice.specs.Laws.Correction.{Lent, spotted}
use Rattle.notice.proofs.Laws.Correction.{changes}
use Rattle.notice.specs.Laws.Listed.{counted, listed}
use Rattle.notice.specs.Laws.Sound.{sound, judged}
use Rattle.notice.specs.Laws.Told.{told, reads_good}
use Rattle.notice.specs.Laws.Demands.{asked_row, record_is, whole_of, good}

-- ---- the family

same_record : (x : Whole) → Lent x → record_of (values_of x) ≡ x
unfolding values_of
same_record x (exact, fine) =
    let n = x.0.count in
    told x.0 (areas_told n x.1.0) x.1.1 fine ∙ ap (λ l. (x.0, (l, x.1.1))) (told_exact (some_areas our_point n) x.1.0 exact)

text_values : (n v : ℕ) → v < 2 ^ (n * 8) → texted (text_of n v) ≡ n ∷ v ∷ []
unfolding text_of
text_values n v l = ap₂ (λ a b. a ∷ b ∷ []) (length_bytes n (digits (n * 8) v)) (run_value n v l)

same_values : (terms : Terms) (vs : List ℕ) → Legal (notice terms) [] vs → values_of (record_of vs) ≡ vs
unfolding values_of
same_values terms vs h =
    let l = listed terms vs h in
    ap values_of (record_is terms vs l)
    ∙ ap₂ (λ us ws. headed (head_of vs) (us ++ ws)) (told_exact (some_areas terms.point (head_of vs).count) l.row l.exact) (text_values l.size l.number l.narrow)
    ∙ sym l.is

can_lend : (terms : Terms) (vs : List ℕ) → Legal (notice terms) [] vs → Lent (record_of vs)
unfolding text_of
can_lend terms vs h = let l = listed terms vs h in subst⁻¹ Lent (record_is terms vs l) (l.exact, bytes_below l.size _)

pub family : (terms : Terms) → Family (notices terms) Whole Lent values_of record_of changed
unfolding notices
family terms = record {
  sound = sound terms;
  judged = judged terms;
  counted = λ x k. counted terms x;
  same_record = λ x k h. same_record x k;
  same_values = same_values terms;
  can_lend = can_lend terms;
  changes = λ x i v p w k e n. changes terms x i v p w k e;
}

-- ---- said of the notice's promises

-- What is written from a row and a text is read back as the same record, the numbers that the row was asked for, and the same text, where there is room for them.
pub written_reads : (terms : Terms) (s : List ℕ) (r : Notice) (row t u : List ℕ) → Bytes t → Writes (notices terms) s (bare 0) u (values_of (r, (row, t))) → let xs = areas_told r.count row in
    (m : List ℕ) × (u ≡ m ++ drop (length m) s)
    × ((areas text : List ℕ) → length xs ≤ length areas → length t ≤ length text → Reads terms m areas text (Ok (told_of (r, (xs, t)))) (ahead xs areas) (ahead t text))
written_reads terms s r row t u fine w =
    let y = written_read (family terms) s (r, (areas_told r.count row, t)) u (exact_told (some_areas terms.point r.count) row, fine) (subst⁻¹ (Writes (notices terms) s (bare 0) u) (asked_row r row t) w) in
    (y.message, y.front, λ areas text k l. reads_good terms y.message areas text y.reads k l)

module _ (terms : Terms) (s row text : List ℕ) (a : Told) (row' text' : List ℕ) (fine : Bytes s) (reads : Reads terms s row text (Ok a) row' text') where
  -- What is read is written back as the same bytes.
  pub read_writes_back : (u : List ℕ) (code : Verdict) (t : List ℕ) → length s ≤ length u → Writes (notices terms) u code t (values_of (whole_of a row' text')) → (code ≡ bare 0) × (t ≡ s ++ drop (length s) u)
  read_writes_back = read_written (family terms) s (whole_of a row' text') fine (good terms s row text a row' text' reads)

-- An expiry that was corrected leaves the areas' count, four bits at 59, and every other bit: what stands before its own 21 bits, and what stands behind them.
pub expiry_leaves_count : (terms : Terms) (s : List ℕ) (v : ℕ) (t : List ℕ) → Bytes s → Corrects (notices terms) s 6 v (bare 0) t → (field_at t 59 4 ≡ field_at s 59 4) × Differs false s 38 21 v t
unfolding notices
expiry_leaves_count terms s v t fine e =
    let c = accepted_correction (family terms) (spot_of terms.point) (spotted terms) s fine 6 v (bare 0) t e refl in
    let offset : c.offset ≡ 38 = cc in
    let width : c.width ≡ 21 = cc in
    let alone = subst (λ p. Differs false s p 21 v t) offset (subst (λ w. Differs false s c.offset w v t) width c.alone) in
    (alone.behind 59 4 (lit≤ tt), alone)
