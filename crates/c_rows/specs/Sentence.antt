-- The distress sentence as numbers (paper 01, "Distress report", second paragraph). Assumes nothing.
use Rattle.std.specs.Prelude.{ℕ, ◌≡◌, List, ◌∷◌, ℤ, pos, length}
use Rattle.format.specs.Fmt.{Out, also}
use Rattle.format.specs.Message.{told, leaves}
use Rattle.format.specs.Refusals.{Verdict}
use Rattle.sentence.specs.Sentence.{read_sentence, write_sentence, room_for, laid_over}
use Rattle.distress.specs.declared.reading.Report.{Report}
use Rattle.c_rows.specs.Report.{row_of}

-- the reading of the bytes s, as numbers: the address, then the report's
abbrev pub sentence_numbers : List ℕ → Out (List ℤ)
sentence_numbers s = also (λ x. pos x.0 ∷ row_of x.1) (read_sentence s)

-- the sentence that the writing call makes, where the lent buffer has room for it
abbrev pub sentence_into : List ℕ → ℕ → Report → Out (List ℕ)
sentence_into buf address r = room_for buf (write_sentence address r)

-- what the writing call promises: its refusal, the buffer t and the size n that it leaves
abbrev pub SentenceWrites : List ℕ → ℕ → ℕ → Report → Verdict → List ℕ → ℕ → Type 0
SentenceWrites buf size address r code t n =
    (code ≡ told (sentence_into buf address r)) × (t ≡ laid_over (sentence_into buf address r) buf) × (n ≡ leaves (also length (sentence_into buf address r)) size)
