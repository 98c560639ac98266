-- Demand 2 for the sentence, from the promises of its two calls alone. Assumes nothing.
use Rattle.std.specs.Prelude.{Bool, true, false, List, ◌++◌, ◌≡◌, refl, ℕ, ◌≤◌, leb, length, take, drop, Result, Ok, Err}
use Rattle.std.proofs.Math.Bool.{and-eq-true_iff}
use Rattle.std.proofs.Common.{sym, ap, ◌∙◌, arith, take_at, leb-true}
use Rattle.format.specs.Fmt.{Out, accepted, refused, or_bad, check, also}
use Rattle.format.specs.Message.{write_message}
use Rattle.format.proofs.Laws.Family.{never_read, never_written, written_record}
use Rattle.format.specs.Promises.{read_record, out_of, plain, verdict_of}
use Rattle.format.specs.Laws.Outcomes.{one_refusal, one_number}
use Rattle.format.specs.Laws.Round.{clash, accepted_inj, refused_inj}
use Rattle.distress.proofs.Laws.Demands.{family}
use Rattle.distress.specs.Promises.{Reads}
use Rattle.distress.specs.Report.{reports, values_of, report_of}
use Rattle.sentence.specs.Pattern.{sentence, address_good, around_so, told_around}
use Rattle.sentence.specs.Sentence.{read_sentence, write_sentence, room_for, sent_of, laid_over, Hears, SendsOut, Sends}
use Rattle.sentence.specs.Laws.Calls.{heard_fails, heard_as, heard_inside, bytewise}
use Rattle.sentence.specs.Laws.Parts.{sentence_accepted}
use Rattle.sentence.specs.Laws.Tests.{never_around}
use Rattle.distress.specs.declared.reading.Report.{Report}
use Rattle.format.specs.declared.Reason.{Reason}
use Rattle.format.specs.declared.Refusal.{Refusal}

-- ---- answers are decided

pub one_answer : {A : Type 0} (x y : Result A Refusal) → out_of x ≡ out_of y → x ≡ y
one_answer (Ok a) (Ok b) e = ap Ok (accepted_inj e)
one_answer (Ok a) (Err g) e = clash (sym e)
one_answer (Err f) (Ok b) e = clash e
one_answer (Err f) (Err g) e = let same = refused_inj e in ap Err (one_refusal f g (λ i. record { code = same.0 i; bit = same.1 i }))

pub one_around : (x y : Result ℕ Reason) → told_around x ≡ told_around y → x ≡ y
one_around (Ok a) (Ok b) e = ap Ok (accepted_inj e)
one_around (Ok a) (Err r) e = clash (sym e)
one_around (Err q) (Ok b) e = clash e
one_around (Err q) (Err r) e = ap Err (one_number q r (refused_inj e).0)

pub one_hearing : (s : List ℕ) (x y : Result (ℕ × Report) Refusal) → Hears s x → Hears s y → x ≡ y
one_hearing s x y d e = one_answer x y (d ∙ sym e)

pub one_sending : (s : List ℕ) (a : ℕ) (r : Report) (x y : Result ℕ Refusal) (t u : List ℕ) → Sends s a r x t → Sends s a r y u → (x ≡ y) × (t ≡ u)
one_sending s a r x y t u d e = (one_answer x y (d.0 ∙ sym e.0), d.1 ∙ sym e.1)

-- ---- reading accepts exactly the sentences

-- s is the sentence of a good address and of a record that writing accepts
pub record IsSentence (a : ℕ) (r : Report) (s : List ℕ) : Type 0 where
  pub least : 1 ≤ a
  pub most : a ≤ 2_097_151
  pub report : List ℕ
  pub wrote : write_message reports (values_of r) ≡ accepted report
  pub is : s ≡ sentence a report

-- and it is read back as r
report_read : (bs : List ℕ) (r : Report) → write_message reports (values_of r) ≡ accepted bs → Reads bs (Ok r)
report_read bs r e = sym (ap plain (written_record family r bs tt e))

-- .. and for each of their sentences.
pub is_heard : (s : List ℕ) (a : ℕ) (r : Report) → IsSentence a r s → Hears s (Ok (a, r))
is_heard s a r i =
    let b = bytewise (values_of r) i.report i.wrote in
    let e = ap around_so i.is ∙ sentence_accepted a i.report i.least i.most b.long b.fine in
    sym (heard_inside s a i.report e ∙ ap (heard_as a) (sym (report_read i.report r i.wrote)))

-- ---- round trips

-- what a writing that was accepted left: the sentence, and the bytes past it
pub record SentAs (s : List ℕ) (a : ℕ) (r : Report) (n : ℕ) (t : List ℕ) : Type 0 where
  pub text : List ℕ
  pub is : IsSentence a r text
  pub long : n ≡ length text
  pub laid : t ≡ text ++ drop (length text) s

pub sent_as : (s : List ℕ) (a : ℕ) (r : Report) (n : ℕ) (t : List ℕ) → Sends s a r (Ok n) t → SentAs s a r n t
unfolding write_sentence
sent_as s a r n t (d, l) = go (address_good a) refl (write_message reports (values_of r)) refl d l
  where
    go : (x : Bool) → address_good a ≡ x → (o : Out (List ℕ)) → write_message reports (values_of r) ≡ o
        → accepted n ≡ sent_of (room_for s (check (or_bad x 4) 0 (also (sentence a) o))) → t ≡ laid_over (room_for s (check (or_bad x 4) 0 (also (sentence a) o))) s
        → SentAs s a r n t
    go false e o f d l = let z : ◌≡◌ {A = ℕ} 0 1 = cc in absurd (omega arith)
    go true e (refused c p) f d l = let z : ◌≡◌ {A = ℕ} 0 1 = cc in absurd (omega arith)
    go true e (accepted bs) f d l = room (leb (length (sentence a bs)) (length s)) d l
      where
        room : (y : Bool) → accepted n ≡ sent_of (check (or_bad y 6) 0 (accepted (sentence a bs))) → t ≡ laid_over (check (or_bad y 6) 0 (accepted (sentence a bs))) s
            → SentAs s a r n t
        room false d l = let z : ◌≡◌ {A = ℕ} 0 1 = cc in absurd (omega arith)
        room true d l =
            let g = (and-eq-true_iff (leb 1 a) (leb a 2_097_151)).0 e in
            record {
              text = sentence a bs;
              is = record { least = leb-true 1 a g.0; most = leb-true a 2_097_151 g.1; report = bs; wrote = f; is = refl };
              long = cc;
              laid = l;
            }

-- What is written is read back as the same address and record.
pub sent_heard : (s : List ℕ) (a : ℕ) (r : Report) (n : ℕ) (t : List ℕ) → Sends s a r (Ok n) t → Hears (take n t) (Ok (a, r))
sent_heard s a r n t h =
    let w = sent_as s a r n t h in
    let k : take n t ≡ w.text = ap (take n) w.laid ∙ take_at w.text (drop (length w.text) s) n (sym w.long) in
    is_heard w.text a r w.is ∙ ap (λ q. plain (read_sentence q)) (sym k)

-- ---- no refusal has the number 0

pub no_zero_heard : {n : ℕ} (s : List ℕ) → refused 0 n ≡ plain (read_sentence s) → ⊥
no_zero_heard {n} s h = go (around_so s) refl
  where
    go : (o : Out (ℕ × List ℕ)) → around_so s ≡ o → ⊥
    go (refused c p) e =
        let z : c ≡ 0 = sym (ap (λ o. (verdict_of o).code) (h ∙ ap plain (heard_fails s c p e))) in
        never_around s p (e ∙ ap (λ c. refused c p) z)
    go (accepted x) e = inside (read_record reports report_of x.1) refl (h ∙ heard_inside s x.0 x.1 e)
      where
        inside : (o : Out Report) → read_record reports report_of x.1 ≡ o → refused 0 n ≡ heard_as x.0 (plain o) → ⊥
        inside (accepted r) f k = let z : ◌≡◌ {A = ℕ} 0 1 = cc in omega arith
        inside (refused c p) f k = let z : c ≡ 0 = sym (ap (λ o. (verdict_of o).code) k) in never_read family x.1 p (f ∙ ap (λ c. refused c p) z)

pub no_zero_sent : {n : ℕ} (s : List ℕ) (a : ℕ) (r : Report) (t : List ℕ) → SendsOut s a r (refused 0 n) t → ⊥
unfolding write_sentence
no_zero_sent {n} s a r t (d, l) = go (address_good a) (write_message reports (values_of r)) refl d
  where
    go : (x : Bool) (o : Out (List ℕ)) → write_message reports (values_of r) ≡ o → refused 0 n ≡ sent_of (room_for s (check (or_bad x 4) 0 (also (sentence a) o))) → ⊥
    go false o f d = let z : ◌≡◌ {A = ℕ} 0 4 = ap (λ o. (verdict_of o).code) d in omega arith
    go true (refused c p) f d = let z : c ≡ 0 = sym (ap (λ o. (verdict_of o).code) d) in never_written family r p tt (f ∙ ap (λ c. refused c p) z)
    go true (accepted bs) f d = room (leb (length (sentence a bs)) (length s)) d
      where
        room : (y : Bool) → refused 0 n ≡ sent_of (check (or_bad y 6) 0 (accepted (sentence a bs))) → ⊥
        room false d = let z : ◌≡◌ {A = ℕ} 0 6 = ap (λ o. (verdict_of o).code) d in omega arith
        room true d = let z : ◌≡◌ {A = ℕ} 0 1 = cc in omega arith

-- ---- a refusal leaves the buffer

pub refused_sending : (s : List ℕ) (a : ℕ) (r : Report) (f : Refusal) (t : List ℕ) → Sends s a r (Err f) t → t ≡ s
refused_sending s a r f t (d, l) = go (room_for s (write_sentence a r)) d l
  where
    go : (o : Out (List ℕ)) → out_of {R = ℕ} (Err f) ≡ sent_of o → t ≡ laid_over o s → t ≡ s
    go (accepted u) d l = let z : ◌≡◌ {A = ℕ} 0 1 = cc in absurd (omega arith)
    go (refused e p) d l = l
