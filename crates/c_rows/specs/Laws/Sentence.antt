-- A sentence that is written, as numbers: what `write` gives decides them, by the answer's case.
use Rattle.std.specs.Prelude.{ℕ, ◌≡◌, refl, List, length}
use Rattle.std.proofs.Common.{sym, ap, ◌∙◌, subst, arith}
use Rattle.format.specs.Fmt.{Out, accepted, refused, also}
use Rattle.format.specs.Message.{told as Message·told, leaves}
use Rattle.format.specs.Refusals.{bare}
use Rattle.format.specs.Refusals.{Verdict}
use Rattle.sentence.specs.Sentence.{sent_of, SendsOut}
use Rattle.distress.specs.declared.reading.Report.{Report}
use Rattle.format.specs.Promises.{refused_by, verdict_of}
use Rattle.c_rows.specs.Sentence.{sentence_into, SentenceWrites}

module _ (buf : List ℕ) (size address : ℕ) {r r' : Report} (told : r ≡ r') {sent : Out ℕ} {t : List ℕ} (sends : SendsOut buf address r sent t) where
  -- the call's promise, from what the answer says of each writing
  sends_so : (c : Verdict) (n : ℕ) → ((o : Out (List ℕ)) → sent ≡ sent_of o → (c ≡ Message·told o) × (n ≡ leaves (also length o) size)) → SentenceWrites buf size address r' c t n
  sends_so c n f =
      let x = f (sentence_into buf address r) sends.0 in
      subst (λ (r : Report). SentenceWrites buf size address r c t n) told (x.0, sends.1, x.1)

  pub sent_bytes : (n : ℕ) → sent ≡ accepted n → SentenceWrites buf size address r' (bare 0) t n
  sent_bytes n e = sends_so (bare 0) n go
    where
      go : (o : Out (List ℕ)) → sent ≡ sent_of o → (bare 0 ≡ Message·told o) × (n ≡ leaves (also length o) size)
      go (accepted u) x = (refl, cc)
      go (refused c p) x = let z : ◌≡◌ {A = ℕ} 0 1 = cc in absurd (omega arith)

  pub unsent : (c : Verdict) → sent ≡ refused_by c → SentenceWrites buf size address r' c t size
  unsent c e = sends_so c size go
    where
      go : (o : Out (List ℕ)) → sent ≡ sent_of o → (c ≡ Message·told o) × (size ≡ leaves (also length o) size)
      go (accepted u) x = let z : ◌≡◌ {A = ℕ} 0 1 = cc in absurd (omega arith)
      go (refused d p) x = (ap verdict_of (sym e ∙ x), refl)
