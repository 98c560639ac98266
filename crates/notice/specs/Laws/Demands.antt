-- The notice is a family of format/specs/Laws/Family, whose theorems are demands 2 and 3; said here of the notice's own promises, and once more of the expiry, whose correction must leave the count of areas. Assumes nothing.
use Rattle.std.specs.Prelude.{◌≡◌, refl, Bool, true, false, ◌&&◌, List, [], ◌++◌, ℕ, ◌≤◌, ◌<◌, leb, length, take, drop, get_or, Result, Ok, Err}
use Rattle.std.proofs.Common.{sym, ap, ap₂, ◌∙◌, append-nil, take_at}
use Rattle.format.specs.Fmt.{Out, accepted, refused, check, also, or_bad}
use Rattle.format.specs.Message.{read_message, ahead}
use Rattle.format.specs.Promises.{answered, read_record, out_of, plain}
use Rattle.format.proofs.Laws.Legal.{legal}
use Rattle.format.specs.Laws.Outcomes.{one_refusal}
use Rattle.format.specs.Laws.Round.{also_inv, clash, accepted_inj, refused_inj}
use Rattle.format.proofs.Laws.Round.{read_write}
use Rattle.format.proofs.Laws.Whole.{was}
use Rattle.format.specs.Laws.Groups.{told_again, told_exact}
use Rattle.notice_fields.specs.Laws.Instances.{some_areas}
use Rattle.text.proofs.Laws.Clean.{no_line_end}
use Rattle.notice_fields.specs.Row.{areas_long, areas_told}
use Rattle.notice_fields.specs.Terms.{Terms, our_point}
use Rattle.notice.specs.Notice.{ours, notice, notices}
use Rattle.notice.specs.Promises.{housed, told_of, Reads}
use Rattle.notice.specs.Record.{Whole, headed, texted, values_of, head_of, text_of, record_of}
use Rattle.format.specs.declared.Refusal.{Refusal}
use Rattle.notice.specs.declared.reading.Notice.{Notice}
use Rattle.notice.specs.declared.reading.Told.{Told}
use Rattle.notice.specs.Laws.Listed.{Listed, listed}
use Rattle.notice.specs.Laws.Told.{recorded}

-- ---- a row tells no more than its areas

-- a row has the values of the numbers that its kinds and counts ask for,
pub asked_row : (r : Notice) (row t : List ℕ) → values_of (r, (areas_told r.count row, t)) ≡ values_of (r, (row, t))
unfolding values_of
asked_row r row t =
    let n = r.count in
    ap (λ l. headed r (l ++ texted t)) (ap (areas_told n) (sym (append-nil (areas_told n row))) ∙ told_again (some_areas our_point n) row [])

-- and so a longer row those of its front
pub longer_row : (r : Notice) (row us t : List ℕ) → areas_long r.count row ≡ length row → values_of (r, (row ++ us, t)) ≡ values_of (r, (row, t))
unfolding values_of
longer_row r row us t exact =
    let n = r.count in
    ap (λ l. headed r (l ++ texted t)) (ap (λ l. areas_told n (l ++ us)) (sym (told_exact (some_areas our_point n) row exact)) ∙ told_again (some_areas our_point n) row us)

-- ---- the family

-- the record of accepted values
pub record_is : (terms : Terms) (vs : List ℕ) (l : Listed terms vs) → record_of vs ≡ (head_of vs, (l.row, text_of l.size l.number))
record_is terms vs l = ap record_of l.is ∙ recorded (head_of vs) l.row l.size l.number

-- ---- said of the notice's promises

-- results that tell the same are the same
pub one_out : {R : Type 0} (a b : Result R Refusal) → out_of a ≡ out_of b → a ≡ b
one_out (Ok a) (Ok b) e = ap Ok (accepted_inj e)
one_out (Ok a) (Err g) e = clash (sym e)
one_out (Err f) (Ok b) e = clash e
one_out (Err f) (Err g) e = let (c, p) = refused_inj e in ap Err (one_refusal f g (λ i. record { code = c i; bit = p i }))

-- Two answers that reading may give to the same bytes, row and buffer are equal, and leave the same.
pub one_reading : (terms : Terms) (s row text : List ℕ) (a b : Result Told Refusal) (row₁ text₁ row₂ text₂ : List ℕ) → Reads terms s row text a row₁ text₁ → Reads terms s row text b row₂ text₂
    → (a ≡ b) × (row₁ ≡ row₂) × (text₁ ≡ text₂)
one_reading terms s row text a b row₁ text₁ row₂ text₂ (x, y, z) (x', y', z') = (one_out a b (x ∙ sym x'), y ∙ sym y', z ∙ sym z')

-- the notice that a good answer tells: its areas and text stand in front of what was lent
abbrev pub whole_of : Told → List ℕ → List ℕ → Whole
whole_of a row text = (a.notice, (take a.numbers row, take a.text text))

-- a good answer is an accepted reading
pub good : (terms : Terms) (s row text : List ℕ) (a : Told) (row' text' : List ℕ) → Reads terms s row text (Ok a) row' text' → read_record (notices terms) record_of s ≡ accepted (whole_of a row' text')
good terms s row text a row' text' (x, y, z) = go (read_record (notices terms) record_of s) x y z
  where
    fits : (q : Whole) → accepted a ≡ accepted (told_of q) → row' ≡ ahead q.1.0 row → text' ≡ ahead q.1.1 text → q ≡ whole_of a row' text'
    fits q e y z =
        let k : a ≡ told_of q = accepted_inj e in
        let areas : take a.numbers row' ≡ q.1.0 = ap₂ (λ (a : Told) l. take a.numbers l) k y ∙ take_at q.1.0 (drop (length q.1.0) row) (length q.1.0) refl in
        let words : take a.text text' ≡ q.1.1 = ap₂ (λ (a : Told) l. take a.text l) k z ∙ take_at q.1.1 (drop (length q.1.1) text) (length q.1.1) refl in
        λ i. ((sym k i).notice, (sym areas i, sym words i))

    go : (o : Out Whole) → accepted a ≡ plain (also told_of (housed (length row) (length text) o)) → row' ≡ answered (λ x. ahead x.1.0 row) (λ c. row) (housed (length row) (length text) o)
        → text' ≡ answered (λ x. ahead x.1.1 text) (λ c. text) (housed (length row) (length text) o) → o ≡ accepted (whole_of a row' text')
    go (refused c p) x y z = clash (sym x)
    go (accepted q) x y z = roomy (leb (length q.1.0) (length row) && leb (length q.1.1) (length text)) x y z
      where
        roomy : (b : Bool) → let o = check (or_bad b 6) 0 (accepted q) in accepted a ≡ plain (also told_of o) → row' ≡ answered (λ x. ahead x.1.0 row) (λ c. row) o → text' ≡ answered (λ x. ahead x.1.1 text) (λ c. text) o → accepted q ≡ accepted (whole_of a row' text')
        roomy true x y z = ap accepted (fits q x y z)
        roomy false x y z = clash (sym x)

-- ---- the text

-- The text of a notice that reading accepts is good in its terms.
pub accepted_text : (terms : Terms) (s : List ℕ) (x : Whole) → read_record (notices terms) record_of s ≡ accepted x → terms.text x.1.1 ≡ true
unfolding notices
accepted_text terms s x e =
    let (vs, m, k) = also_inv record_of (read_message (notices terms) s) e in
    let h = legal (notice terms) [] 0 vs _ (read_write (notice terms) [] 0 vs _ (was (notices terms) s vs m).walked) in
    let l = listed terms vs h in
    ap (λ (x : Whole). terms.text x.1.1) (sym k ∙ record_is terms vs l) ∙ l.spoken

-- No line end passes: every byte of the text that a good reading hands out is at least 0x20.
pub read_no_line_end : (english : Bool) (s row text : List ℕ) (a : Told) (row' text' : List ℕ) → Reads (ours english) s row text (Ok a) row' text' → let t = take a.text text' in
    (i : ℕ) → i < length t → 0x20 ≤ get_or t i 0
read_no_line_end english s row text a row' text' e = no_line_end english (take a.text text') (accepted_text (ours english) s (whole_of a row' text') (good (ours english) s row text a row' text' e))
