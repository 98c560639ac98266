-- Demands 2 and 3 of the tide telegram, of the promises that its reading, writing and correcting make: a row with the numbers that its records ask for is written as every layout's values are. Assumes nothing.
use Rattle.std.specs.Prelude.{◌≡◌, true, false, List, ◌++◌, ℕ, ◌≤◌, length, take, drop, Ok}
use Rattle.std.proofs.Common.{sym, ap, ◌∙◌, subst, arith, le-leb, length-append}
use Rattle.std.proofs.Math.Path.{subst⁻¹}
use Rattle.bits.specs.Bits.{Bytes}
use Rattle.format.specs.Codes.{headed}
use Rattle.format.specs.Fmt.{accepted, refused, check}
use Rattle.format.specs.Message.{fault, told, read_message, write_message, ahead}
use Rattle.format.specs.Promises.{plain, read_record, Writes, Corrects}
use Rattle.format.specs.Refusals.{bare}
use Rattle.format.specs.Settled.{SettledBy}
use Rattle.format.specs.Refusals.{Verdict}
use Rattle.format.specs.Laws.Answers.{plain_good, code_plain}
use Rattle.format.proofs.Laws.Family.{never_read, read_values, written_read, read_written, never_written}
use Rattle.format.specs.Laws.Groups.{exact_told, exact_more}
use Rattle.format.specs.Laws.Lent.{same_code, one_laying}
use Rattle.format.proofs.Laws.Lent.{enough_lays, accepted_lays}
use Rattle.format.specs.Laws.Settled.{settled_with}
use Rattle.format.proofs.Laws.Settled.{settled}
use Rattle.tide.specs.Changed.{spot_of, changed}
use Rattle.tide.specs.Promises.{told_of, Reads}
use Rattle.tide.specs.Record.{values_of, record_of}
use Rattle.tide.specs.Row.{records_long, records_told}
use Rattle.tide.specs.Tide.{tides}
use Rattle.tide.specs.WritingPromises.{enough, TideWrites}
use Rattle.tide.specs.declared.reading.Tide.{Tide}
use Rattle.tide.specs.declared.reading.Told.{Told}
use Rattle.tide.specs.Laws.Demands.{Lent, changes, family, asked_row, longer_row, whole_of, good}
use Rattle.tide.specs.Laws.Sound.{many}
use Rattle.tide.specs.Laws.Spots.{spotted}
use Rattle.tide.specs.Laws.Told.{reads_good}

-- ---- what writing a tide telegram promises, where the row has enough, is what every layout's writing does

pub enough_writes : (s : List ℕ) (r : Tide) (row : List ℕ) (code : Verdict) (u : List ℕ) → enough r row ≡ true → TideWrites s r row code u → Writes tides s code u (values_of (r, row))
enough_writes s r row code u = enough_lays tides (values_of (r, row)) s (enough r row) code u

-- where it told no refusal, the row had enough
pub accepted_writes : (s : List ℕ) (r : Tide) (row u : List ℕ) → TideWrites s r row (bare 0) u → (enough r row ≡ true) × Writes tides s (bare 0) u (values_of (r, row))
unfolding tides headed
accepted_writes s r row u = accepted_lays tides (values_of (r, row)) s (enough r row) u (omega arith) never
  where
    never : (p : ℕ) → write_message tides (values_of (r, row)) ≡ refused 0 p → ⊥
    never p e = never_written family (r, records_told r.count row) p (exact_told (many r.count) row) (ap (write_message tides) (asked_row r row) ∙ e)

-- two answers that it allows are equal
pub one_writing : (s : List ℕ) (r : Tide) (row : List ℕ) (c d : Verdict) (u w : List ℕ) → TideWrites s r row c u → TideWrites s r row d w → (c ≡ d) × (u ≡ w)
one_writing s r row = one_laying (enough r row) (write_message tides (values_of (r, row))) s

-- ---- demand 2

-- What is written from a row is read back as the same record and the numbers that the row was asked for, where there is room for them.
pub written_reads : (s : List ℕ) (r : Tide) (row u : List ℕ) → TideWrites s r row (bare 0) u → let xs = records_told r.count row in
    (m : List ℕ) × (u ≡ m ++ drop (length m) s) × ((lent : List ℕ) → length xs ≤ length lent → Reads m lent (Ok (told_of (r, xs))) (ahead xs lent))
written_reads s r row u x =
    let w = (accepted_writes s r row u x).1 in
    let y = written_read family s (r, records_told r.count row) u (exact_told (many r.count) row) (subst⁻¹ (Writes tides s (bare 0) u) (asked_row r row) w) in
    (y.message, y.front, λ lent l. reads_good y.message lent y.reads l)

-- s is a telegram that reading answered with a and the row
module _ (s row : List ℕ) (a : Told) (row' : List ℕ) (fine : Bytes s) (reads : Reads s row (Ok a) row') where
  -- the row has what the telegram's records ask for, and so has a longer one
  lent : Lent (whole_of a row')
  lent = (read_values family s (whole_of a row') fine (good s row a row' reads)).1

  -- What is read is written back as the same bytes, from the numbers that were read, whatever stands behind them in the row.
  pub read_writes_back : (us u : List ℕ) (code : Verdict) (t : List ℕ) → length s ≤ length u → TideWrites u a.tide (take a.numbers row' ++ us) code t → (code ≡ bare 0) × (t ≡ s ++ drop (length s) u)
  read_writes_back us u code t l x =
      let r = a.tide in
      let xs = take a.numbers row' in
      let more = exact_more (many r.count) xs us lent in
      let w = enough_writes u r (xs ++ us) code t (le-leb (records_long r.count (xs ++ us)) (length (xs ++ us)) (omega (arith, more, length-append xs us))) x in
      read_written family s (whole_of a row') fine (good s row a row' reads) u code t l (subst (Writes tides u code t) (longer_row r xs us lent) w)

-- ---- demand 3

-- Every correction of a tide telegram, by any number and any value. Its own refusal is c; where that is none, a and row' are what reading it gave.
pub corrected : (s row : List ℕ) (a : Told) (row' : List ℕ) → Bytes s → (c : Verdict) → c ≡ told (read_message tides s) → (c.code ≡ 0 → Reads s row (Ok a) row')
    → (i v : ℕ) (code : Verdict) (t : List ℕ) → Corrects tides s i v code t
    → SettledBy (λ x u d y. let z = changed i v x in TideWrites u z.0 z.1 d y) (λ x. spot_of x i) false s (check (fault c.code) c.bit (accepted (whole_of a row'))) v code t
unfolding tides headed
corrected s row a row' fine c own reads i v code t corrects =
    let q = read_record tides record_of s in
    let o = check (fault c.code) c.bit (accepted (whole_of a row')) in
    let so : o ≡ plain q = code_plain q c (whole_of a row') (own ∙ same_code record_of (read_message tides s)) (never_read family s) (λ z. good s row a row' (reads z)) in
    settled_with (λ x. spot_of x i) false s v (λ x u d y. Writes tides u d y (values_of (changed i v x))) _ o code t
    (λ x p w is there u d y wrote.
    let lent = (read_values family s x fine (plain_good q (sym so ∙ is))).1 in
    let z = changed i v x in
    let exact = (changes x i v p w lent (spotted x i ∙ there)).1 in
    enough_writes u z.0 z.1 d y (le-leb (records_long z.0.count z.1) (length z.1) (omega (arith, exact))) wrote)
    (settled family spot_of spotted s fine i v code t corrects o so)
