-- The report is a family of format/specs/Laws/Family, whose theorems are demands 2 and 3; said here of the report's own promises. Assumes nothing.
use Rattle.std.specs.Prelude.{◌≡◌, refl, List, [], ◌∷◌, ◌++◌, ℕ, ◌≤◌, ◌^◌, length, get_or, take, drop}
use Rattle.std.proofs.Common.{sym, ap, ◌∙◌, subst, lit≤}
use Rattle.bits.specs.Bits.{Bytes}
use Rattle.format.specs.Refusals.{bare}
use Rattle.format.specs.Refusals.{Verdict}
use Rattle.format.specs.Promises.{out_of, plain, Writes, Corrects}
use Rattle.format.specs.Laws.Entries.{entries, legal_entries}
use Rattle.format.specs.Laws.Family.{Family}
use Rattle.format.proofs.Laws.Family.{written_front, read_written}
use Rattle.format.specs.Settled.{Settled}
use Rattle.format.proofs.Laws.Settled.{settled}
use Rattle.format.specs.Laws.Legal.{Legal, exactly}
use Rattle.walk.specs.Laws.Sign.{spell_int}
use Rattle.format.specs.Laws.Zero.{Judged, only_numbered}
use Rattle.distress.specs.Changed.{spot_of, changed}
use Rattle.distress.specs.Promises.{Reads}
use Rattle.distress.specs.Report.{report, reports, values_of, report_of, again}
use Rattle.distress.specs.Laws.Correction.{spotted, changed_values}
use Rattle.distress.specs.Laws.Sound.{sound}
use Rattle.distress.specs.declared.reading.Report.{Report}
use Rattle.format.specs.declared.Refusal.{Refusal}
use Rattle.std.specs.Prelude.{Result, Ok}
use Rattle.distress.specs.Laws.Demands.{good, long}

judged : Judged report
unfolding report
judged = (
  only_numbered 16 1 _,
  (
    only_numbered 32 3 _,
    (
      only_numbered 25 3 _,
      (
        only_numbered 24 3 _,
        (
          only_numbered 5 3 _,
          (
            only_numbered 5 3 _,
            (only_numbered 6 3 _, (only_numbered 7 3 _, (only_numbered 9 3 _, (only_numbered 4 3 _, (only_numbered 3 4 _, tt))))),
          ),
        ),
      ),
    ),
  ),
)

-- accepted values are those of their record: the code, the fill and the two signs are as they must be
same_values : (vs : List ℕ) → Legal report [] vs → values_of (report_of vs) ≡ vs
unfolding report values_of report_of entries
same_values vs h =
    let e = legal_entries report 11 vs tt h in
    let g = subst (Legal report []) (sym e) h in
    let z = g.2.2.2.2.2.2.2.2.2.2 in
    let code = exactly 16 1 0xBDC1 _ (get_or vs 0 0) g.0 g.1 in
    let fill = exactly 3 4 0 _ (get_or vs 10 0) z.0 z.1 in
    let east = spell_int (2 ^ 25) (get_or vs 2 0) (lit≤ tt) refl g.2.2.0 in
    let north = spell_int (2 ^ 24) (get_or vs 3 0) (lit≤ tt) refl g.2.2.2.0 in
    (λ x. sym code x ∷ get_or vs 1 0 ∷ east x ∷ north x ∷ get_or vs 4 0 ∷ get_or vs 5 0 ∷ get_or vs 6 0 ∷ get_or vs 7 0 ∷ get_or vs 8 0 ∷ get_or vs 9 0 ∷ sym fill x ∷ []) ∙ e

pub family : Family reports Report (λ r. Unit) values_of report_of changed
unfolding reports report values_of
family = record {
  sound = sound;
  judged = judged;
  counted = λ r k. tt;
  same_record = λ r k h. again r h.2.2.0 h.2.2.2.0;
  same_values = same_values;
  can_lend = λ vs h. tt;
  changes = λ r i v p w k e n. (changed_values r i v p w (sym (spotted r i) ∙ e) n, tt);
}

-- ---- said of the report's promises

-- What is written is read back as the same record.
pub written_reads : (s : List ℕ) (r : Report) (t : List ℕ) → Writes reports s (bare 0) t (values_of r) → Reads (take 17 t) (Ok r)
written_reads s r t w = sym (ap plain (written_front family s r t 17 tt w (long (values_of r))))

-- What is read is written back as the same bytes.
pub read_writes_back : (s : List ℕ) (r : Report) → Bytes s → Reads s (Ok r) → (u : List ℕ) (code : Verdict) (t : List ℕ) → length s ≤ length u → Writes reports u code t (values_of r)
    → (code ≡ bare 0) × (t ≡ s ++ drop (length s) u)
read_writes_back s r fine a = read_written family s r fine (good s r a)

-- Demand 3: every correction of a report, by any number and any value.
pub corrected : (s : List ℕ) (a : Result Report Refusal) → Bytes s → Reads s a → (i v : ℕ) (code : Verdict) (t : List ℕ) → Corrects reports s i v code t → Settled reports (λ r. spot_of) values_of changed s (out_of a) i v code t
corrected s a fine reads i v code t c = settled family (λ r. spot_of) spotted s fine i v code t c (out_of a) reads
