-- What the promise of the sentence's writing decides: one answer, and lent memory untouched by a refusal. What holds of every reading in a row stands in laws/Row, and where no refusal is told in laws/Refused and laws/Readings; of `bellnewt_distress_write` and `_correct` in format/specs/Laws/Family. Assumes nothing.
use Rattle.std.specs.Prelude.{ℕ, ◌≡◌, List, length}
use Rattle.std.proofs.Common.{sym, ◌∙◌, ap}
use Rattle.format.specs.Fmt.{Out, accepted, refused, also}
use Rattle.format.specs.Message.{told, leaves}
use Rattle.format.specs.Refusals.{Verdict}
use Rattle.distress.specs.declared.reading.Report.{Report}
use Rattle.sentence.specs.Sentence.{laid_over}
use Rattle.c_rows.specs.Sentence.{sentence_into, SentenceWrites}

-- ---- `bellnewt_sentence_write`

module _ (buf : List ℕ) (size address : ℕ) (r : Report) (c : Verdict) (t : List ℕ) (n : ℕ) (w : SentenceWrites buf size address r c t n) where
  pub one_sentence : (d : Verdict) (u : List ℕ) (m : ℕ) → SentenceWrites buf size address r d u m → (c ≡ d) × (t ≡ u) × (n ≡ m)
  one_sentence d u m v = (w.0 ∙ sym v.0, w.1 ∙ sym v.1, w.2 ∙ sym v.2)

  pub refused_sentence_writing : (c.code ≡ 0 → ⊥) → (t ≡ buf) × (n ≡ size)
  refused_sentence_writing h = go (sentence_into buf address r) w.0 w.1 w.2
    where
      go : (o : Out (List ℕ)) → c ≡ told o → t ≡ laid_over o buf → n ≡ leaves (also length o) size → (t ≡ buf) × (n ≡ size)
      go (accepted u) z x y = absurd (h (ap (λ r. r.code) z))
      go (refused d p) z x y = (x, y)
