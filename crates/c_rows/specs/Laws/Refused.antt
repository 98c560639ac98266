-- Demand 1 for every call over a lent row, a lent number, or a language as a number: a refusal leaves all that is lent as it was, and where no refusal is told the definition accepted, so what is promised of success holds. One law for readings in a row, one for a language; the rest follow by them and by `refused_stands` of format. Assumes nothing.
use Rattle.std.specs.Prelude.{ℕ, ◌≤◌, ◌≡◌, refl, Bool, true, false, cond, ◌&&◌, List, [], ◌++◌, leb, eqb, ℤ, length, drop, Ok}
use Rattle.std.proofs.Common.{sym, ap, ◌∙◌, subst, arith, leb-true, eqb-true}
use Rattle.format.specs.Fmt.{Out, accepted, refused, or_bad, check, also}
use Rattle.format.specs.Message.{told, leaves, into, write_message, correct_message, ahead}
use Rattle.format.specs.Refusals.{bare}
use Rattle.format.specs.Refusals.{Verdict}
use Rattle.format.specs.Promises.{answered, plain, read_record, Writes, Corrects, tested, Lays}
use Rattle.format.specs.Laws.Family.{refused_stands}
use Rattle.format.proofs.Laws.Family.{never_read}
use Rattle.format.specs.Laws.Lent.{zero_stands, tested_zero, refused_laying}
use Rattle.format.specs.Laws.Round.{clash}
use Rattle.ais.specs.Slots.{first_of, slots_in, slots_for, addressed, broadcast}
use Rattle.ais.specs.Laws.Slots.{first_none}
use Rattle.distress.specs.declared.reading.Report.{Report}
use Rattle.notice.specs.Notice.{ours, notices}
use Rattle.notice.specs.Promises.{housed, told_of}
use Rattle.notice.specs.Record.{Whole, record_of as whole_of, values_of as notice_values}
use Rattle.notice.specs.WritingPromises.{enough, NoticeWrites}
use Rattle.notice.specs.declared.reading.Notice.{Notice}
use Rattle.notice.proofs.Laws.Demands.{family as notice_family}
use Rattle.outline.specs.Promises.{drawn, counted, Outlines}
use Rattle.outline.specs.Laws.Outlines.{no_zero_outline}
use Rattle.packet.specs.SplittingPromises.{splitting, Splits}
use Rattle.sentence.specs.Sentence.{laid_over, sent_of}
use Rattle.sentence.specs.Laws.Demands.{no_zero_sent}
use Rattle.txhz.specs.Txhz.{txhzs, values_of}
use Rattle.c_rows.specs.Language.{spoken}
use Rattle.c_rows.specs.Making.{correcting, WritesIn, CorrectsIn}
use Rattle.c_rows.specs.Notice.{row_of, roomy, NoticeFills}
use Rattle.c_rows.specs.Row.{Fills}
use Rattle.c_rows.specs.Sentence.{sentence_into, SentenceWrites}
use Rattle.c_rows.specs.Slots.{SlotsTold}
use Rattle.c_rows.specs.Split.{splitting_in, SplitsIn}
use Rattle.c_rows.specs.Told.{OutlineTold}
use Rattle.c_rows.specs.Txhz.{record_of, txhz_into, TxhzWrites}

-- ---- a reading in a row (a refusal: Row `refused_filling`)

-- what was read, and its numbers at the front of the row
pub record Filled {X : Type 0} (g : X → List ℤ) (o : Out X) (row t : List ℤ) : Type 0 where
  pub told : X
  pub reads : o ≡ accepted told
  pub room : length (g told) ≤ length row
  pub front : t ≡ g told ++ drop (length (g told)) row

pub zero_filling : {X : Type 0} (g : X → List ℤ) (o : Out X) {row : List ℤ} {c : Verdict} {t : List ℤ} → ((p : ℕ) → o ≡ refused 0 p → ⊥) → Fills (also g o) row c t → c.code ≡ 0 → Filled g o row t
zero_filling g (refused d p) never f z = absurd (never p (ap (λ c. refused c p) (ap (λ r. r.code) (sym f.code_is) ∙ z)))
zero_filling g (accepted x) {row} {c} {t} never f z = go (leb (length (g x)) (length row)) refl f.code_is f.row_is
  where
    go : (b : Bool) → leb (length (g x)) (length row) ≡ b → c ≡ told (check (or_bad b 6) 0 (accepted (ahead (g x) row))) → t ≡ leaves (check (or_bad b 6) 0 (accepted (ahead (g x) row))) row → Filled g (accepted x) row t
    go true e k l = record { told = x; reads = refl; room = leb-true (length (g x)) (length row) e; front = l }
    go false e k l = absurd (omega (arith, ap (λ r. r.code) k, z))

-- ---- a language as a number

-- a test that comes last refuses by 6 alone
tested_never : {A : Type 0} (test : A → Bool) (o : Out A) → ((p : ℕ) → o ≡ refused 0 p → ⊥) → (p : ℕ) → tested test o ≡ refused 0 p → ⊥
tested_never test o never p e = let (x, _, _, is) = tested_zero test o never (ap (λ o. (told o).code) e) in clash (sym e ∙ is)

spoken_good : {A : Type 0} (language : ℕ) (o : Bool → Out A) → leb language 1 ≡ true → spoken language o ≡ o (eqb language 1)
spoken_good language o e = rw e refl

-- where a call's refusal is 4 for another language, and none is told, it is one of both
spoken_zero : {A : Type 0} (language : ℕ) (o : Bool → Out A) (f : Out A → Verdict) (code : Verdict) → f (refused 4 0) ≡ bare 4 → code ≡ f (spoken language o) → code.code ≡ 0 → leb language 1 ≡ true
spoken_zero language o f code four e z = go (leb language 1) e
  where
    go : (b : Bool) → code ≡ f (check (or_bad b 4) 0 (o (eqb language 1))) → b ≡ true
    go true e = refl
    go false e = absurd (omega (arith, ap (λ r. r.code) four, ap (λ r. r.code) e, z))

module _ (language : ℕ) (s : List ℕ) where
  -- correcting
  module _ (i v : ℕ) (code : Verdict) (t : List ℕ) (e : CorrectsIn language s i v code t) where
    pub refused_correcting : (code.code ≡ 0 → ⊥) → t ≡ s
    refused_correcting = refused_stands (correcting language s i v) s t code e.0 e.1

    pub zero_correcting : code.code ≡ 0 → (language ≤ 1) × Corrects (notices (ours (eqb language 1))) s i v code t
    zero_correcting z =
        let o : Bool → Out (List ℕ) = λ english. correct_message (notices (ours english)) s i v in
        let l = spoken_zero language o told code refl e.0 z in
        let is = spoken_good language o l in
        (leb-true language 1 l, (e.0 ∙ ap told is, e.1 ∙ ap (λ o. leaves o s) is))

  -- splitting
  module _ (c : List ℕ) (number k : ℕ) (code : Verdict) (t : List ℕ) (e : SplitsIn s c language number k code t) where
    pub refused_splitting : (code.code ≡ 0 → ⊥) → t ≡ s
    refused_splitting = refused_stands (splitting_in s c language number k) s t code e.0 e.1

    pub zero_splitting : code.code ≡ 0 → (language ≤ 1) × Splits s c (eqb language 1) number k code t
    zero_splitting z =
        let o : Bool → Out (List ℕ) = λ english. splitting s c english number k in
        let l = spoken_zero language o told code refl e.0 z in
        let is = spoken_good language o l in
        (leb-true language 1 l, (e.0 ∙ ap told is, e.1 ∙ ap (λ o. leaves o s) is))

  -- writing a notice
  module _ (r : Notice) (areas text : List ℕ) (code : Verdict) (t : List ℕ) (e : WritesIn language s r areas text code t) where
    abbrev written : Bool → Out (List ℕ)
    written english = write_message (notices (ours english)) (notice_values (r, (areas, text)))

    pub refused_notice_writing : (code.code ≡ 0 → ⊥) → t ≡ s
    refused_notice_writing = refused_laying (enough r areas) (spoken language written) s code t e

    pub zero_notice_writing : code.code ≡ 0 → (language ≤ 1) × NoticeWrites (ours (eqb language 1)) s r areas text code t
    zero_notice_writing z =
        let l = spoken_zero language written (λ o. told (into (cond (enough r areas) s []) o)) code refl e.0 z in
        (leb-true language 1 l, subst (λ o. Lays (enough r areas) o s code t) (spoken_good language written l) e)

  -- reading a notice (a refusal: Notice `refused_lent`)
  module _ (row : List ℤ) (areas text : List ℕ) (code : Verdict) (row' : List ℤ) (areas' text' : List ℕ) (e : NoticeFills language s row areas text code row' areas' text') where
    abbrev found : Bool → Out Whole
    found english = read_record (notices (ours english)) whole_of s

    abbrev fits : Whole → Bool
    fits x = leb (length x.1.0) (length areas) && leb (length x.1.1) (length text)

    pub zero_notice : code.code ≡ 0
        → (language ≤ 1) × (10 ≤ length row) × (x : Whole) × (read_record (notices (ours (eqb language 1))) whole_of s ≡ accepted x) × (row' ≡ row_of (told_of x) ++ drop 10 row) × (areas' ≡ ahead x.1.0 areas) × (text' ≡ ahead x.1.1 text)
    zero_notice z =
        let o : Bool → Out Whole = λ english. roomy (length row) (housed (length areas) (length text) (found english)) in
        let l = spoken_zero language o told code refl e.0 z in
        let is = spoken_good language o l in
        let never = never_read (notice_family (ours (eqb language 1))) s in
        let (y, there, ten, whole) = tested_zero (λ x. leb 10 (length row)) (tested fits (found (eqb language 1))) (tested_never fits (found (eqb language 1)) never) (ap (λ o. (told o).code) (sym is) ∙ ap (λ r. r.code) (sym e.0) ∙ z) in
        let (x, reads, _, inside) = tested_zero fits (found (eqb language 1)) never (ap (λ o. (told o).code) there) in
        let all = is ∙ whole ∙ sym there ∙ inside in (
          leb-true language 1 l,
          leb-true 10 (length row) ten,
          x,
          reads,
          e.1 ∙ ap (answered (λ x. row_of (told_of x) ++ drop 10 row) (λ c. row)) all,
          e.2 ∙ ap (answered (λ x. ahead x.1.0 areas) (λ c. areas)) all,
          e.3 ∙ ap (answered (λ x. ahead x.1.1 text) (λ c. text)) all,
        )

  -- the outline (a refusal: Told `refused_telling`)
  pub zero_outline : (row : List ℤ) (n : ℕ) (code : Verdict) (t : List ℤ) (m : ℕ) → OutlineTold s language row n code t m → code.code ≡ 0 → (language ≤ 1) × Outlines (eqb language 1) s row (Ok m) t
  zero_outline row n code t m e z =
      let l = spoken_zero language (λ english. counted english s row) told code refl e.0 z in
      let is = spoken_good language (λ english. counted english s row) l in
      let row_is = spoken_good language (λ english. drawn english s row) l in
      let counts = zero_stands (counted (eqb language 1) s row) n m code never (e.0 ∙ ap told is) (e.2 ∙ ap (λ o. leaves o n) is) z in
      (leb-true language 1 l, (sym (ap plain counts), e.1 ∙ ap (λ o. leaves o row) row_is))
    where
      never : (p : ℕ) → counted (eqb language 1) s row ≡ refused 0 p → ⊥
      never p e = no_zero_outline (eqb language 1) s row (bare 0) refl (sym (ap plain e))

-- ---- slots

never_slots : (message bytes p : ℕ) → slots_for message bytes ≡ refused 0 p → ⊥
unfolding slots_for slots_in
never_slots message bytes p e = go (eqb message 6) (eqb message 8) (eqb bytes 0) e
  where
    some : (ls : List ℕ) (z : Bool) → cond z (refused 1 0) (first_of 1 ls bytes) ≡ refused 0 p → ⊥
    some ls true e = let k : ◌≡◌ {A = ℕ} 1 0 = ap (λ o. (told o).code) e in omega (arith, k)
    some ls false e = let k = (first_none 1 ls bytes 0 p e).0 in omega (arith, k)

    go : (x y z : Bool) → cond x (cond z (refused 1 0) (first_of 1 addressed bytes)) (cond y (cond z (refused 1 0) (first_of 1 broadcast bytes)) (refused 2 0)) ≡ refused 0 p → ⊥
    go true y z e = some addressed z e
    go false true z e = some broadcast z e
    go false false z e = let k : ◌≡◌ {A = ℕ} 2 0 = ap (λ o. (told o).code) e in omega (arith, k)

module _ (message bytes n : ℕ) (code : Verdict) (m : ℕ) (e : SlotsTold message bytes n code m) where
  pub refused_slots : (code.code ≡ 0 → ⊥) → m ≡ n
  refused_slots = refused_stands (slots_for message bytes) n m code e.0 e.1

  pub zero_slots : code.code ≡ 0 → slots_for message bytes ≡ accepted m
  zero_slots = zero_stands (slots_for message bytes) n m code (never_slots message bytes) e.0 e.1

-- ---- writing TXHZ and the sentence

module _ (s b : List ℕ) (address receiver count : ℕ) (code : Verdict) (t : List ℕ) (e : TxhzWrites s b address receiver count code t) where
  pub refused_txhz_writing : (code.code ≡ 0 → ⊥) → t ≡ s
  refused_txhz_writing = refused_stands (txhz_into s b address receiver count) s t code e.0 e.1

  pub zero_txhz_writing : code.code ≡ 0 → (length b ≡ 20) × Writes txhzs s code t (values_of (record_of address receiver count b))
  zero_txhz_writing z = go (eqb (length b) 20) refl e.0 e.1
    where
      o : Out (List ℕ)
      o = into s (write_message txhzs (values_of (record_of address receiver count b)))

      go : (y : Bool) → eqb (length b) 20 ≡ y → code ≡ told (check (or_bad y 1) 0 o) → t ≡ leaves (check (or_bad y 1) 0 o) s → (length b ≡ 20) × Writes txhzs s code t (values_of (record_of address receiver count b))
      go true q k l = (eqb-true (length b) 20 q, (k, l))
      go false q k l = absurd (omega (arith, ap (λ r. r.code) k, z))

-- the sentence (a refusal: Demands `refused_sentence_writing`)
pub zero_sentence_writing : (buf : List ℕ) (size address : ℕ) (r : Report) (code : Verdict) (t : List ℕ) (n : ℕ) → SentenceWrites buf size address r code t n → code.code ≡ 0
    → (u : List ℕ) × (sentence_into buf address r ≡ accepted u) × (t ≡ u ++ drop (length u) buf) × (n ≡ length u)
zero_sentence_writing buf size address r code t n e z = go (sentence_into buf address r) refl e.0 e.1 e.2
  where
    go : (o : Out (List ℕ)) → sentence_into buf address r ≡ o → code ≡ told o → t ≡ laid_over o buf → n ≡ leaves (also length o) size → (u : List ℕ) × (sentence_into buf address r ≡ accepted u) × (t ≡ u ++ drop (length u) buf) × (n ≡ length u)
    go (accepted u) q k l m = (u, q, l, m)
    go (refused c p) q k l m =
        let is : sentence_into buf address r ≡ refused 0 p = q ∙ ap (λ c. refused c p) (ap (λ r. r.code) (sym k) ∙ z) in
        absurd (no_zero_sent buf address r buf (sym (ap sent_of is), sym (ap (λ o. laid_over o buf) is)))
