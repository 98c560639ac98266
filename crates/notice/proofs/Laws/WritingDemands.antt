-- Demands 2 and 3 of the notice, of the promises that its reading, writing and correcting make: a row with the numbers that its areas ask for is written as every layout's values are. Assumes nothing.
use Rattle.std.specs.Prelude.{◌≡◌, true, false, List, ◌++◌, ℕ, ◌≤◌, length, take, drop, Ok}
use Rattle.std.proofs.Common.{sym, ap, ◌∙◌, subst, arith, le-leb, length-append}
use Rattle.bits.specs.Bits.{Bytes}
use Rattle.format.specs.Fmt.{accepted, refused, check}
use Rattle.format.specs.Message.{fault, told as Message·told, read_message, write_message, ahead}
use Rattle.format.specs.Promises.{plain, read_record, Writes, Corrects}
use Rattle.format.specs.Refusals.{bare, Verdict}
use Rattle.format.proofs.Laws.Family.{never_read, never_written, read_values}
use Rattle.format.specs.Settled.{SettledBy}
use Rattle.format.specs.Laws.Answers.{plain_good, code_plain}
use Rattle.format.specs.Laws.Settled.{settled_with}
use Rattle.format.proofs.Laws.Settled.{settled}
use Rattle.format.specs.Laws.Groups.{exact_told, exact_more}
use Rattle.format.specs.Laws.Lent.{same_code}
use Rattle.format.proofs.Laws.Lent.{accepted_lays}
use Rattle.notice_fields.specs.Laws.Instances.{some_areas}
use Rattle.notice_fields.specs.Row.{areas_long, areas_told}
use Rattle.notice.specs.Changed.{spot_of, changed}
use Rattle.notice_fields.specs.Terms.{Terms}
use Rattle.notice.specs.Notice.{notices}
use Rattle.notice.specs.Promises.{told_of, Reads}
use Rattle.notice.specs.Record.{values_of, record_of}
use Rattle.notice.specs.declared.reading.Notice.{Notice}
use Rattle.notice.specs.declared.reading.Told.{Told}
use Rattle.notice.specs.Laws.Correction.{Lent, spotted}
use Rattle.notice.proofs.Laws.Correction.{changes}
use Rattle.notice.specs.Laws.Demands.{asked_row, longer_row, whole_of, good}
use Rattle.notice.proofs.Laws.Demands.{family, written_reads as written_values, read_writes_back as values_back}
use Rattle.notice.specs.WritingPromises.{enough, NoticeWrites}
use Rattle.notice.specs.Laws.WritingDemands.{enough_writes}

-- ---- what writing a notice promises, where the row has enough, is what every layout's writing does

-- where it told no refusal, the row had enough
pub accepted_writes : (terms : Terms) (s : List ℕ) (r : Notice) (row t u : List ℕ) → Bytes t → NoticeWrites terms s r row t (bare 0) u → (enough r row ≡ true) × Writes (notices terms) s (bare 0) u (values_of (r, (row, t)))
unfolding notices
accepted_writes terms s r row t u fine = accepted_lays (notices terms) (values_of (r, (row, t))) s (enough r row) u (omega arith) never
  where
    never : (p : ℕ) → write_message (notices terms) (values_of (r, (row, t))) ≡ refused 0 p → ⊥
    never p e = never_written (family terms) (r, (areas_told r.count row, t)) p (exact_told (some_areas terms.point r.count) row, fine) (ap (write_message (notices terms)) (asked_row r row t) ∙ e)

-- ---- demand 2

-- What is written from a row and a text is read back as the same record, the numbers that the row was asked for, and the same text, where there is room for them.
pub written_reads : (terms : Terms) (s : List ℕ) (r : Notice) (row t u : List ℕ) → Bytes t → NoticeWrites terms s r row t (bare 0) u → let xs = areas_told r.count row in
    (m : List ℕ) × (u ≡ m ++ drop (length m) s)
    × ((areas text : List ℕ) → length xs ≤ length areas → length t ≤ length text → Reads terms m areas text (Ok (told_of (r, (xs, t)))) (ahead xs areas) (ahead t text))
written_reads terms s r row t u fine x = written_values terms s r row t u fine (accepted_writes terms s r row t u fine x).1

-- s is a notice that reading answered with a, the row and the text
module _ (terms : Terms) (s row text : List ℕ) (a : Told) (row' text' : List ℕ) (fine : Bytes s) (reads : Reads terms s row text (Ok a) row' text') where
  -- the row has what the notice's areas ask for, and so has a longer one
  lent : Lent (whole_of a row' text')
  lent = (read_values (family terms) s (whole_of a row' text') fine (good terms s row text a row' text' reads)).1

  -- What is read is written back as the same bytes, from the numbers that were read, whatever stands behind them in the row.
  pub read_writes_back : (us u : List ℕ) (code : Verdict) (t : List ℕ) → length s ≤ length u → NoticeWrites terms u a.notice (take a.numbers row' ++ us) (take a.text text') code t
      → (code ≡ bare 0) × (t ≡ s ++ drop (length s) u)
  read_writes_back us u code t l x =
      let r = a.notice in
      let xs = take a.numbers row' in
      let more = exact_more (some_areas terms.point r.count) xs us lent.0 in
      let w = enough_writes terms u r (xs ++ us) (take a.text text') code t (le-leb (areas_long r.count (xs ++ us)) (length (xs ++ us)) (omega (arith, more, length-append xs us))) x in
      values_back terms s row text a row' text' fine reads u code t l (subst (Writes (notices terms) u code t) (longer_row r xs us (take a.text text') lent.0) w)

-- ---- demand 3

-- Every correction of a notice, by any number and any value. Its own refusal is c; where that is none, a, row' and text' are what reading it gave.
pub corrected : (terms : Terms) (s row text : List ℕ) (a : Told) (row' text' : List ℕ) → Bytes s → (c : Verdict) → c ≡ Message·told (read_message (notices terms) s) → (c.code ≡ 0 → Reads terms s row text (Ok a) row' text')
    → (i v : ℕ) (code : Verdict) (t : List ℕ) → Corrects (notices terms) s i v code t
    → SettledBy (λ x u d y. let z = changed i v x in NoticeWrites terms u z.0 z.1.0 z.1.1 d y) (λ x. spot_of terms.point x i) false s (check (fault c.code) c.bit (accepted (whole_of a row' text'))) v code t
unfolding notices
corrected terms s row text a row' text' fine c own reads i v code t corrects =
    let q = read_record (notices terms) record_of s in
    let o = check (fault c.code) c.bit (accepted (whole_of a row' text')) in
    let told : o ≡ plain q = code_plain q c (whole_of a row' text') (own ∙ same_code record_of (read_message (notices terms) s)) (never_read (family terms) s) (λ z. good terms s row text a row' text' (reads z)) in
    settled_with (λ x. spot_of terms.point x i) false s v (λ x u d y. Writes (notices terms) u d y (values_of (changed i v x))) _ o code t
    (λ x p w is there u d y wrote.
    let lent = (read_values (family terms) s x fine (plain_good q (sym told ∙ is))).1 in
    let z = changed i v x in
    let (exact, fine') = (changes terms x i v p w lent (spotted terms x i ∙ there)).1 in
    enough_writes terms u z.0 z.1.0 z.1.1 d y (le-leb (areas_long z.0.count z.1.0) (length z.1.0) (omega (arith, exact))) wrote)
    (settled (family terms) (spot_of terms.point) (spotted terms) s fine i v code t corrects o told)
