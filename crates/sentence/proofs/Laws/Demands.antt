-- Demand 2 for the sentence, from the promises of its two calls alone. Assumes nothing.
use Rattle.std.specs.Prelude.{true, List, ◌++◌, ◌≡◌, refl, ℕ, ◌≤◌, length, drop, Result, Ok}
use Rattle.std.proofs.Common.{sym, ap, ◌∙◌, arith, le-leb}
use Rattle.bits.specs.Bits.{Bytes}
use Rattle.format.specs.Fmt.{Out, accepted, refused}
use Rattle.format.specs.Message.{write_message}
use Rattle.format.proofs.Laws.Family.{read_writes}
use Rattle.format.specs.Promises.{read_record, plain}
use Rattle.format.specs.Laws.Round.{accepted_inj}
use Rattle.distress.specs.Laws.Demands.{good}
use Rattle.distress.proofs.Laws.Demands.{family}
use Rattle.distress.specs.Promises.{Reads}
use Rattle.distress.specs.Report.{reports, values_of, report_of}
use Rattle.sentence.specs.Pattern.{address_good, around_so}
use Rattle.sentence.specs.Sentence.{sent_of, laid_over, Hears, Sends}
use Rattle.sentence.specs.Laws.Calls.{heard_fails, heard_as, heard_inside, all_sent}
use Rattle.sentence.proofs.Laws.Parts.{sentenced}
use Rattle.distress.specs.declared.reading.Report.{Report}
use Rattle.format.specs.declared.Refusal.{Refusal}
use Rattle.sentence.specs.Laws.Demands.{IsSentence, one_answer}

-- ---- reading accepts exactly the sentences

-- a report that is read as r is what r is written as
report_again : (bs : List ℕ) (r : Report) → Bytes bs → Reads bs (Ok r) → write_message reports (values_of r) ≡ accepted bs
report_again bs r fine e = read_writes family bs r fine (good bs r e)

good_inside : (a b : ℕ) (r : Report) (x : Out Report) → accepted (a, r) ≡ heard_as b x → (a ≡ b) × (accepted r ≡ x)
good_inside a b r (accepted q) e = let z : (a, r) ≡ (b, q) = accepted_inj e in (ap (λ x. x.0) z, ap (λ x. accepted x.1) z)
good_inside a b r (refused c p) e = let z : ◌≡◌ {A = ℕ} 0 1 = cc in absurd (omega arith)

-- `read` answers an address and a record only for their sentence ..
pub heard_is : (s : List ℕ) (a : ℕ) (r : Report) → Hears s (Ok (a, r)) → IsSentence a r s
heard_is s a r h = go (around_so s) refl
  where
    go : (o : Out (ℕ × List ℕ)) → around_so s ≡ o → IsSentence a r s
    go (refused c p) e =
        let q = ap plain (heard_fails s c p e) in
        let z : ◌≡◌ {A = ℕ} 0 1 = cc in
        absurd (omega arith)
    go (accepted x) e =
        let t = sentenced s x e in
        let (p, q) = good_inside a x.0 r (plain (read_record reports report_of x.1)) (h ∙ heard_inside s x.0 x.1 e) in
        let w = report_again x.1 r t.fine q in
        rw p (record { least = t.least; most = t.most; report = x.1; wrote = w; is = t.is })

-- ---- round trips

-- What is read is written back as the same bytes, into any buffer with room.
pub heard_sent : (s : List ℕ) (a : ℕ) (r : Report) → Hears s (Ok (a, r)) → (u : List ℕ) (x : Result ℕ Refusal) (t : List ℕ) → length s ≤ length u → Sends u a r x t
    → (x ≡ Ok (length s)) × (t ≡ s ++ drop (length s) u)
heard_sent s a r h u x t room w =
    let i = heard_is s a r h in
    let good : address_good a ≡ true = rw (le-leb 1 a i.least, le-leb a 2_097_151 i.most) refl in
    let e = all_sent u a r good i.report i.wrote (omega (arith, ap length i.is)) in (
      one_answer x (Ok (length s)) (w.0 ∙ ap sent_of e ∙ ap (λ q. accepted (length q)) (sym i.is)),
      w.1 ∙ ap (λ o. laid_over o u) e ∙ ap (λ q. q ++ drop (length q) u) (sym i.is),
    )
