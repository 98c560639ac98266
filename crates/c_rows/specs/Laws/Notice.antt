-- The four ways in which a notice is read as numbers: another language, a row too short, a good notice, a refused one. Each is the definition's by the answer's case. And back: what such a reading was. Assumes nothing.
use Rattle.std.specs.Prelude.{◌≡◌, refl, Bool, true, false, ◌&&◌, List, ◌++◌, ℕ, zero, suc, ◌≤◌, ◌<◌, leb, eqb, ℤ, length, drop, Ok, Err}
use Rattle.std.proofs.Common.{sym, ap, ◌∙◌, subst, arith, le-leb, leb-true, ne_eqb}
use Rattle.std.proofs.lemmas.Bool.{lt-leb}
use Rattle.format.specs.Fmt.{Out, accepted, refused, or_bad, check, also, after}
use Rattle.format.specs.Message.{told, read_message, ahead}
use Rattle.format.specs.Refusals.{shown, bare, seen_refusal}
use Rattle.format.specs.Refusals.{Verdict}
use Rattle.format.specs.Promises.{read_record, answered, plain, refused_by}
use Rattle.format.proofs.Laws.Zero.{read_zero_message}
use Rattle.c_rows.specs.Row.{Fills}
use Rattle.c_rows.specs.Laws.Row.{row_full, one_filling}
use Rattle.notice.specs.Notice.{ours, notices}
use Rattle.notice.specs.Record.{Whole, record_of as whole_of}
use Rattle.notice.specs.Promises.{housed, told_of, Reads}
use Rattle.notice.specs.Laws.Sound.{judged}
use Rattle.notice.specs.declared.reading.Told.{Told}
use Rattle.format.specs.declared.Refusal.{Refusal}
use Rattle.c_rows.specs.Notice.{row_of, told_in_of, roomy, unroomed, Lent, NoticeFills}

-- a refusal leaves the row, the areas and the text as they were
pub refused_lent : (o : Out Whole) (row : List ℤ) (areas text : List ℕ) (c : Verdict) (row' : List ℤ) (areas' text' : List ℕ)
    → Lent o row areas text c row' areas' text' → (c.code ≡ 0 → ⊥) → (row' ≡ row) × (areas' ≡ areas) × (text' ≡ text)
refused_lent (accepted x) row areas text c row' areas' text' l n = absurd (n (ap (λ r. r.code) l.0))
refused_lent (refused d p) row areas text c row' areas' text' l n = (l.1, l.2, l.3)

-- no notice is refused by 0
named : (english : Bool) (s : List ℕ) (p : ℕ) → read_message (notices (ours english)) s ≡ refused 0 p → ⊥
unfolding notices
named english s p = read_zero_message (notices (ours english)) s p (judged (ours english))

-- a good notice found room for its areas and its text
pub good_rooms : (english : Bool) (s areas text : List ℕ) {r : Told} → accepted r ≡ plain (also told_of (housed (length areas) (length text) (read_record (notices (ours english)) whole_of s)))
    → (r.numbers ≤ length areas) × (r.text ≤ length text)
good_rooms english s areas text {r} = go (read_record (notices (ours english)) whole_of s)
  where
    fits : (x : Whole) (m n : Bool) → leb (length x.1.0) (length areas) ≡ m → leb (length x.1.1) (length text) ≡ n
        → accepted r ≡ plain (also told_of (check (or_bad (m && n) 6) 0 (accepted x))) → (r.numbers ≤ length areas) × (r.text ≤ length text)
    fits x true true m n e =
        let is : r ≡ told_of x = cc in
        let a = leb-true (length x.1.0) (length areas) m in
        let t = leb-true (length x.1.1) (length text) n in
        (rw is a, rw is t)
    fits x true false m n e = let z : ◌≡◌ {A = ℕ} 0 1 = cc in absurd (omega arith)
    fits x false n m k e = let z : ◌≡◌ {A = ℕ} 0 1 = cc in absurd (omega arith)

    go : (o : Out Whole) → accepted r ≡ plain (also told_of (housed (length areas) (length text) o)) → (r.numbers ≤ length areas) × (r.text ≤ length text)
    go (accepted x) e = fits x (leb (length x.1.0) (length areas)) (leb (length x.1.1) (length text)) refl refl e
    go (refused c p) e = let z : ◌≡◌ {A = ℕ} 0 1 = cc in absurd (omega arith)

module _ (language : ℕ) (s : List ℕ) (row : List ℤ) (areas text : List ℕ) where
  pub lent_not : 1 < language → NoticeFills language s row areas text (bare 4) row areas text
  lent_not h = rw (lt-leb language 1 h) (refl, refl, refl, refl)

  module _ (either : language ≤ 1) where
    abbrev found : Out (List ℕ)
    found = read_message (notices (ours (eqb language 1))) s

    abbrev housing : Out Whole → Out Whole
    housing = housed (length areas) (length text)

    -- what a reading in a language promises
    fills_in : {c : Verdict} {row' : List ℤ} {areas' text' : List ℕ} → Lent (roomy (length row) (housing (also whole_of found))) row areas text c row' areas' text' → NoticeFills language s row areas text c row' areas' text'
    fills_in x = rw (le-leb language 1 either) x

    pub lent_short : length row < 10 → NoticeFills language s row areas text (unroomed (told found)) row areas text
    lent_short few = fills_in (go found (named (eqb language 1) s))
      where
        go : (o : Out (List ℕ)) → ((p : ℕ) → o ≡ refused 0 p → ⊥) → Lent (roomy (length row) (housing (also whole_of o))) row areas text (unroomed (told o)) row areas text
        go (refused zero p) n = absurd (n p refl)
        go (refused (suc c) p) n = (rw (ne_eqb (suc c) 0 (λ z. omega arith)) refl, refl, refl, refl)
        go (accepted vs) n = none (leb (length (whole_of vs).1.0) (length areas) && leb (length (whole_of vs).1.1) (length text))
          where
            none : (b : Bool) → Lent (roomy (length row) (check (or_bad b 6) 0 (accepted (whole_of vs)))) row areas text (bare 6) row areas text
            none true = rw (lt-leb 10 (length row) few) (refl, refl, refl, refl)
            none false = (refl, refl, refl, refl)

    module _ {areas' text' : List ℕ} (ten : 10 ≤ length row) where
      pub lent_good : {r : Told} {c : Verdict} {row' : List ℤ} → Reads (ours (eqb language 1)) s areas text (Ok r) areas' text' → Fills (accepted (row_of r)) row c row' → NoticeFills language s row areas text c row' areas' text'
      lent_good {r} {c} {row'} (e, a, t) f = fills_in (go (housing (also whole_of found)) e a t)
        where
          go : (o : Out Whole) → accepted r ≡ plain (also told_of o) → areas' ≡ answered (λ x. ahead x.1.0 areas) (λ c. areas) o → text' ≡ answered (λ x. ahead x.1.1 text) (λ c. text) o
              → Lent (roomy (length row) o) row areas text c row' areas' text'
          go (refused d p) e a t = let z : ◌≡◌ {A = ℕ} 0 1 = cc in absurd (omega arith)
          go (accepted x) e a t =
              let is : r ≡ told_of x = cc in
              let full = one_filling f (row_full {o = accepted (row_of r)} row {xs = row_of r} refl ten) in
              rw (le-leb 10 (length row) ten) (full.0, full.1 ∙ ap (λ r. row_of r ++ drop 10 row) is, a, t)

      pub lent_bad : (f : Refusal) → Reads (ours (eqb language 1)) s areas text (Err f) areas' text' → NoticeFills language s row areas text (seen_refusal f) row areas' text'
      lent_bad f (e, a, t) = fills_in (go (housing (also whole_of found)) e a t)
        where
          go : (o : Out Whole) → refused_by (seen_refusal f) ≡ plain (also told_of o) → areas' ≡ answered (λ x. ahead x.1.0 areas) (λ c. areas) o → text' ≡ answered (λ x. ahead x.1.1 text) (λ c. text) o
              → Lent (roomy (length row) o) row areas text (seen_refusal f) row areas' text'
          go (refused c p) e a t = let k : seen_refusal f ≡ shown c p = cc in (k, refl, a, t)
          go (accepted x) e a t = let z : ◌≡◌ {A = ℕ} 0 1 = cc in absurd (omega arith)

    -- A reading that did not want for room answers by the notice's own refusal; where that is none, the row tells what was read.
    pub told_in : {c : Verdict} {row' : List ℤ} {areas' text' : List ℕ} → NoticeFills language s row areas text c row' areas' text' → (c.code ≡ 6 → ⊥)
        → (c ≡ told found) × (c.code ≡ 0 → Reads (ours (eqb language 1)) s areas text (Ok (told_in_of row')) areas' text')
    told_in {c} {row'} {areas'} {text'} fills roomed =
        go found (named (eqb language 1) s) (subst (λ b. Lent (check (or_bad b 4) 0 (roomy (length row) (housing (also whole_of found)))) row areas text c row' areas' text') (le-leb language 1 either) fills)
      where
        tells : Out Whole → Type 0
        tells o = (accepted (told_in_of row') ≡ plain (also told_of o)) × (areas' ≡ answered (λ x. ahead x.1.0 areas) (λ c. areas) o) × (text' ≡ answered (λ x. ahead x.1.1 text) (λ c. text) o)

        go : (o : Out (List ℕ)) → ((p : ℕ) → o ≡ refused 0 p → ⊥) → Lent (roomy (length row) (housing (also whole_of o))) row areas text c row' areas' text' → (c ≡ told o) × (c.code ≡ 0 → tells (housing (also whole_of o)))
        go (refused d p) n l = (l.0, λ z. absurd (n p (ap (λ c. refused c p) (ap (λ r. r.code) (sym l.0) ∙ z))))
        go (accepted vs) n l = fits (leb (length (whole_of vs).1.0) (length areas) && leb (length (whole_of vs).1.1) (length text)) (leb 10 (length row)) l
          where
            fits : (a b : Bool) → let o = check (or_bad a 6) 0 (accepted (whole_of vs)) in
                Lent (after o (λ x. check (or_bad b 6) 0 (accepted x))) row areas text c row' areas' text' → (c ≡ bare 0) × (c.code ≡ 0 → tells o)
            fits false b l = absurd (roomed (ap (λ r. r.code) l.0))
            fits true false l = absurd (roomed (ap (λ r. r.code) l.0))
            fits true true l = (l.0, λ z. (ap (λ row. accepted (told_in_of row)) l.1, l.2, l.3))
