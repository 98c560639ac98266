-- What the calls decide whose language is told as a number: another than 0 and 1 is 4 and leaves every byte, else the call is that of the language. Two answers that a promise allows are equal. Assumes nothing.
use Rattle.std.specs.Prelude.{ℕ, ◌≡◌, refl, Bool, true, false, cond, List, leb, eqb, ℤ}
use Rattle.std.proofs.Common.{sym, ◌∙◌, subst, leb-true}
use Rattle.bits.specs.Bits.{Bytes}
use Rattle.bits.specs.Laws.Answers.{one_answer}
use Rattle.format.specs.Fmt.{Out, accepted, or_bad, check}
use Rattle.format.specs.Message.{fault, told, leaves, into, write_message, correct_message}
use Rattle.format.specs.Refusals.{bare}
use Rattle.format.specs.Refusals.{Verdict}
use Rattle.format.specs.Settled.{Stays, SettledBy}
use Rattle.format.specs.Laws.Settled.{settled_with}
use Rattle.notice.specs.Changed.{our_spot, changed}
use Rattle.notice.specs.Notice.{ours, notices}
use Rattle.notice.specs.Record.{Whole, values_of}
use Rattle.format.specs.Promises.{Lays}
use Rattle.notice.specs.WritingPromises.{enough, NoticeWrites}
use Rattle.notice.specs.Laws.Demands.{whole_of}
use Rattle.notice.proofs.Laws.WritingDemands.{corrected as corrected_notice}
use Rattle.notice.specs.declared.reading.Notice.{Notice}
use Rattle.c_rows.specs.Language.{spoken}
use Rattle.c_rows.specs.Making.{WritesIn, correcting, CorrectsIn}
use Rattle.c_rows.specs.Notice.{told_in_of, NoticeFills}
use Rattle.c_rows.specs.Laws.Notice.{told_in}
use Rattle.c_rows.specs.Split.{splitting_in, SplitsIn}
use Rattle.c_rows.specs.Txhz.{txhz_into, TxhzWrites}

-- ---- two answers that a promise allows are equal

pub one_correction : (language : ℕ) (s : List ℕ) (i v : ℕ) (c d : Verdict) (t u : List ℕ) → CorrectsIn language s i v c t → CorrectsIn language s i v d u → (c ≡ d) × (t ≡ u)
one_correction language s i v c d t u = one_answer (λ c. leaves (correcting language s i v) s)

pub one_split : (s content : List ℕ) (language number k : ℕ) (c d : Verdict) (t u : List ℕ) → SplitsIn s content language number k c t → SplitsIn s content language number k d u → (c ≡ d) × (t ≡ u)
one_split s content language number k c d t u = one_answer (λ c. leaves (splitting_in s content language number k) s)

pub one_txhz : (s b : List ℕ) (address receiver count : ℕ) (c d : Verdict) (t u : List ℕ) → TxhzWrites s b address receiver count c t → TxhzWrites s b address receiver count d u → (c ≡ d) × (t ≡ u)
one_txhz s b address receiver count c d t u = one_answer (λ c. leaves (txhz_into s b address receiver count) s)

pub one_writing : (language : ℕ) (s : List ℕ) (r : Notice) (row text : List ℕ) (c d : Verdict) (t u : List ℕ) → WritesIn language s r row text c t → WritesIn language s r row text d u → (c ≡ d) × (t ≡ u)
one_writing language s r row text c d t u =
    let o = spoken language (λ english. write_message (notices (ours english)) (values_of (r, (row, text)))) in
    one_answer (λ c. cond (enough r row) (leaves (into s o) s) s)

pub one_notice : (language : ℕ) (s : List ℕ) (row : List ℤ) (areas text : List ℕ) (c d : Verdict) (row₁ row₂ : List ℤ) (areas₁ text₁ areas₂ text₂ : List ℕ)
    → NoticeFills language s row areas text c row₁ areas₁ text₁ → NoticeFills language s row areas text d row₂ areas₂ text₂ → (c ≡ d) × (row₁ ≡ row₂) × (areas₁ ≡ areas₂) × (text₁ ≡ text₂)
one_notice language s row areas text c d row₁ row₂ areas₁ text₁ areas₂ text₂ (a, b, e, f) (a', b', e', f') = (a ∙ sym a', b ∙ sym b', e ∙ sym e', f ∙ sym f')

-- ---- demand 3

-- Every correction of a notice whose language is told as a number, by any field number and any value: another language is 4, else it ends as writing in that language does.
-- Reading answers c and leaves row', areas' and text'; it did not want for room.
pub corrected : (language : ℕ) (s : List ℕ) (row : List ℤ) (areas text : List ℕ) (c : Verdict) (row' : List ℤ) (areas' text' : List ℕ) → Bytes s → NoticeFills language s row areas text c row' areas' text' → (c.code ≡ 6 → ⊥)
    → (i v : ℕ) (code : Verdict) (t : List ℕ) → CorrectsIn language s i v code t
    → cond (leb language 1)
    (SettledBy (λ x u d y. let z = changed i v x in WritesIn language u z.0 z.1.0 z.1.1 d y) (λ x. our_spot x i) false s (check (fault c.code) c.bit (accepted (whole_of (told_in_of row') areas' text'))) v code t)
    (Stays (bare 4) s code t)
corrected language s row areas text c row' areas' text' fine fills roomed i v code t corrects = go (leb language 1) refl corrects
  where
    english : Bool
    english = eqb language 1

    o : Out Whole
    o = check (fault c.code) c.bit (accepted (whole_of (told_in_of row') areas' text'))

    go : (b : Bool) → leb language 1 ≡ b → (code ≡ told (check (or_bad b 4) 0 (correct_message (notices (ours english)) s i v))) × (t ≡ leaves (check (or_bad b 4) 0 (correct_message (notices (ours english)) s i v)) s)
        → cond b (SettledBy (λ x u d y. let z = changed i v x in WritesIn language u z.0 z.1.0 z.1.1 d y) (λ x. our_spot x i) false s o v code t) (Stays (bare 4) s code t)
    go false e x = x
    go true e x =
        let (own, reads) = told_in language s row areas text (leb-true language 1 e) fills roomed in
        settled_with (λ x. our_spot x i) false s v (λ x u d y. let z = changed i v x in NoticeWrites (ours english) u z.0 z.1.0 z.1.1 d y) _ o code t
        (λ x p w is there u d y. let z = changed i v x in
        subst (λ b. Lays (enough z.0 z.1.0) (check (or_bad b 4) 0 (write_message (notices (ours english)) (values_of z))) u d y) e)
        (corrected_notice (ours english) s areas text (told_in_of row') areas' text' fine c own reads i v code t x)
