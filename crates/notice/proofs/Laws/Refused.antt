-- Demand 1 for reading a notice into a row and a buffer: a refusal leaves both as they were, and where none is told the notice was read and both had room. (Writing: `refused_laying` in format.) Assumes nothing.
use Rattle.std.specs.Prelude.{◌≡◌, refl, Bool, ◌&&◌, List, ℕ, ◌≤◌, leb, length, Result, Ok}
use Rattle.std.proofs.Common.{sym, ap, ◌∙◌, leb-true}
use Rattle.std.proofs.Math.Bool.{and-eq-true_iff}
use Rattle.format.specs.Fmt.{Out, accepted, refused, also}
use Rattle.format.specs.Message.{told, ahead}
use Rattle.format.specs.Promises.{answered, read_record, out_of, plain, verdict_of}
use Rattle.format.specs.declared.Refusal.{Refusal}
use Rattle.format.proofs.Laws.Family.{never_read}
use Rattle.format.specs.Laws.Lent.{tested_zero}
use Rattle.notice.specs.Notice.{ours, notices}
use Rattle.notice.specs.Promises.{housed, told_of, Reads}
use Rattle.notice.specs.Record.{Whole, record_of}
use Rattle.notice.specs.declared.reading.Told.{Told}
use Rattle.notice.specs.Laws.Demands.{one_out}
use Rattle.notice.proofs.Laws.Demands.{family}

module _ (english : Bool) (s areas text : List ℕ) (a : Result Told Refusal) (areas' text' : List ℕ) (e : Reads (ours english) s areas text a areas' text') where
  abbrev read : Out Whole
  read = housed (length areas) (length text) (read_record (notices (ours english)) record_of s)

  -- A refusal leaves the row and the buffer.
  pub refused_reading : ((verdict_of (out_of a)).code ≡ 0 → ⊥) → (areas' ≡ areas) × (text' ≡ text)
  refused_reading h = go read e.0 e.1 e.2
    where
      go : (o : Out Whole) → out_of a ≡ plain (also told_of o) → areas' ≡ answered (λ x. ahead x.1.0 areas) (λ c. areas) o → text' ≡ answered (λ x. ahead x.1.1 text) (λ c. text) o → (areas' ≡ areas) × (text' ≡ text)
      go (accepted x) is x₁ x₂ = absurd (h (ap (λ o. (verdict_of o).code) is))
      go (refused c p) is x₁ x₂ = (x₁, x₂)

  -- No refusal: the notice is read, its numbers and its text find room, and stand in front.
  pub zero_reading : (verdict_of (out_of a)).code ≡ 0
      → (x : Whole) × (read_record (notices (ours english)) record_of s ≡ accepted x) × (length x.1.0 ≤ length areas) × (length x.1.1 ≤ length text) × (a ≡ Ok (told_of x)) × (areas' ≡ ahead x.1.0 areas) × (text' ≡ ahead x.1.1 text)
  zero_reading z =
      let (x, is, fits, all) = tested_zero (λ x. leb (length x.1.0) (length areas) && leb (length x.1.1) (length text)) (read_record (notices (ours english)) record_of s) (never_read (family (ours english)) s) (number read (ap (λ o. (verdict_of o).code) (sym e.0) ∙ z)) in
      let (m, n) = (and-eq-true_iff (leb (length x.1.0) (length areas)) (leb (length x.1.1) (length text))).0 fits in (
        x,
        is,
        leb-true (length x.1.0) (length areas) m,
        leb-true (length x.1.1) (length text) n,
        one_out a (Ok (told_of x)) (e.0 ∙ ap (λ o. plain (also told_of o)) all),
        e.1 ∙ ap (answered (λ x. ahead x.1.0 areas) (λ c. areas)) all,
        e.2 ∙ ap (answered (λ x. ahead x.1.1 text) (λ c. text)) all,
      )
    where
      number : (o : Out Whole) → (verdict_of (plain (also told_of o))).code ≡ 0 → (told o).code ≡ 0
      number (accepted x) q = refl
      number (refused c p) q = q
