-- Demand 1 for reading a tide telegram and its heights: a refusal leaves the row as it was, and where reading answers 0 the telegram was read and the row had room; no refusal has the number 0. (Writing: `refused_laying` in format.) Assumes nothing.
use Rattle.std.specs.Prelude.{◌≡◌, refl, Bool, true, false, List, [], ℕ, ◌≤◌, leb, ℤ, length, Result, Ok, Err}
use Rattle.std.proofs.Common.{sym, ap, ◌∙◌, leb-true, arith}
use Rattle.format.specs.Fmt.{Out, accepted, refused, also, check, or_bad}
use Rattle.format.specs.Message.{told, leaves, ahead, into}
use Rattle.format.specs.Promises.{answered, out_of, plain, verdict_of, read_record, refused_by}
use Rattle.format.specs.Refusals.{number, Verdict}
use Rattle.format.proofs.Laws.Family.{never_read}
use Rattle.format.specs.Laws.Lent.{tested_zero}
use Rattle.format.specs.Laws.Round.{clash, refused_inj}
use Rattle.format.specs.Laws.Outcomes.{one_outcome}
use Rattle.tide.specs.HeightsPromises.{heights_in, heights_read, shown, counted, Shows}
use Rattle.tide.specs.Promises.{housed, told_of, Reads}
use Rattle.tide.specs.Record.{Whole, record_of}
use Rattle.tide.specs.Tide.{tides}
use Rattle.tide.specs.declared.reading.Told.{Told}
use Rattle.format.specs.declared.Refusal.{Refusal}
use Rattle.tide.specs.Laws.Demands.{family}

-- ---- reading

module _ (s row : List ℕ) (a : Result Told Refusal) (row' : List ℕ) (e : Reads s row a row') where
  -- A refusal leaves the row.
  pub refused_reading : ((verdict_of (out_of a)).code ≡ 0 → ⊥) → row' ≡ row
  refused_reading h = go (housed (length row) (read_record tides record_of s)) e.0 e.1
    where
      go : (o : Out Whole) → out_of a ≡ plain (also told_of o) → row' ≡ answered (λ x. ahead x.1 row) (λ c. row) o → row' ≡ row
      go (accepted x) is y = absurd (h (ap (λ o. (verdict_of o).code) is))
      go (refused c p) is y = y

  -- No refusal: the telegram is read, and its numbers find room and stand in front.
  pub zero_reading : (verdict_of (out_of a)).code ≡ 0 → (x : Whole) × (read_record tides record_of s ≡ accepted x) × (length x.1 ≤ length row) × (a ≡ Ok (told_of x)) × (row' ≡ ahead x.1 row)
  zero_reading z =
      let (x, is, fits, all) = tested_zero (λ x. leb (length x.1) (length row)) (read_record tides record_of s) (never_read family s) (number (housed (length row) (read_record tides record_of s)) (ap (λ o. (verdict_of o).code) (sym e.0) ∙ z)) in
      (x, is, leb-true (length x.1) (length row) fits, one_outcome a (Ok (told_of x)) (e.0 ∙ ap (λ o. plain (also told_of o)) all), e.1 ∙ ap (answered (λ x. ahead x.1 row) (λ c. row)) all)
    where
      number : (o : Out Whole) → (verdict_of (plain (also told_of o))).code ≡ 0 → (told o).code ≡ 0
      number (accepted x) q = refl
      number (refused c p) q = q

-- ---- heights

module _ (s : List ℕ) (row t : List ℤ) (f : Refusal) (x : Shows s row (Err f) t) where
  -- A refusal leaves the row.
  pub refused_showing : t ≡ row
  refused_showing = go (shown s row) x.0 x.1
    where
      go : (o : Out (List ℤ)) → refused (number f.reason) f.bit ≡ plain (also (λ t. length (leaves (heights_read s) [])) o) → t ≡ leaves o row → t ≡ row
      go (accepted u) a e = clash a
      go (refused d p) a e = e

-- No refusal has the number 0.
pub no_zero_showing : (s : List ℕ) (row : List ℤ) (c : Verdict) → c.code ≡ 0 → refused_by c ≡ plain (counted s row) → ⊥
no_zero_showing s row c z e = go (read_record tides record_of s) refl e
  where
    many : Out (List ℤ) → Out ℕ
    many = also (λ t. length (leaves (heights_read s) []))

    full : (b : Bool) (u : List ℤ) → refused_by c ≡ plain (many (check (or_bad b 6) 0 (accepted u))) → ⊥
    full true u a = clash a
    full false u a = omega (arith, z, (refused_inj a).0)

    go : (o : Out Whole) → read_record tides record_of s ≡ o → refused_by c ≡ plain (many (into row (also heights_in o))) → ⊥
    go (accepted x) m a = full (leb (length (heights_in x)) (length row)) _ a
    go (refused d p) m a = never_read family s p (m ∙ ap (λ d. refused d p) (sym (refused_inj a).0 ∙ z))
