-- The distress sentence (paper 01, "Distress report", second paragraph): the report within the pattern. Assumes nothing.
use Rattle.std.specs.Prelude.{ℕ, ◌≡◌, List, leb, length, Result}
use Rattle.format.specs.Fmt.{Out, accepted, refused, or_bad, check, also, after}
use Rattle.format.specs.Message.{write_message, ahead}
use Rattle.format.specs.Promises.{answered, refused_by, out_of, plain, read_record}
use Rattle.format.specs.declared.Refusal.{Refusal}
use Rattle.distress.specs.Report.{reports, values_of, report_of}
use Rattle.distress.specs.declared.reading.Report.{Report}
use Rattle.sentence.specs.Pattern.{sentence, address_good, around_so}

-- The report inside is read only if the sentence around it was accepted. A refusal of the sentence itself has bit 0, for no field is walked there; the report's has the bit that reading the report tells.
unfoldable pub read_sentence : List ℕ → Out (ℕ × Report)
read_sentence s = after (around_so s) (λ x. also (λ r. (x.0, r)) (read_record reports report_of x.1))

-- ---- writing: the address (4, at bit 0), then the report's own refusals, with the bit that writing the report tells

unfoldable pub write_sentence : ℕ → Report → Out (List ℕ)
write_sentence address r = check (or_bad (address_good address) 4) 0 (also (sentence address) (write_message reports (values_of r)))

-- room for it in a lent buffer (6, at bit 0)
abbrev pub room_for : List ℕ → Out (List ℕ) → Out (List ℕ)
room_for s o = after o (λ t. check (or_bad (leb (length t) (length s)) 6) 0 (accepted t))

-- ---- what the calls answer and leave

-- writing: how many bytes the sentence has
abbrev pub sent_of : Out (List ℕ) → Out ℕ
sent_of = answered (λ t. accepted (length t)) refused_by

-- the sentence at the buffer's front, and the bytes past it as they were
abbrev pub laid_over : Out (List ℕ) → List ℕ → List ℕ
laid_over (accepted t) s = ahead t s
laid_over (refused c p) s = s

abbrev pub Hears : List ℕ → Result (ℕ × Report) Refusal → Type 0
Hears s h = out_of h ≡ plain (read_sentence s)

-- writing by what is told of it, with t left of s
abbrev pub SendsOut : List ℕ → ℕ → Report → Out ℕ → List ℕ → Type 0
SendsOut s address r sent t = (sent ≡ sent_of (room_for s (write_sentence address r))) × (t ≡ laid_over (room_for s (write_sentence address r)) s)

abbrev pub Sends : List ℕ → ℕ → Report → Result ℕ Refusal → List ℕ → Type 0
Sends s address r sent t = SendsOut s address r (out_of sent) t
