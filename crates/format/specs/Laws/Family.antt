-- Demands 2 and 3 for a family, from the promises of its calls: what is proved of lists of values, said of records. Assumes nothing.
use Rattle.std.specs.Prelude.{◌≡◌, List, [], ◌++◌, ℕ, ◌≤◌, ◌<◌, ◌^◌, set, length, drop}
use Rattle.std.proofs.Math.Path.{refl}
use Rattle.std.proofs.Common.{sym, ap, ◌∙◌, le-leb}
use Rattle.bits.specs.Laws.Answers.{one_answer}
use Rattle.format.specs.Fmt.{Out, accepted, refused, spot, found}
use Rattle.format.specs.Message.{Layout, Sound, told, leaves, into, write_message, correct_message}
use Rattle.format.specs.Refusals.{Verdict}
use Rattle.format.specs.Promises.{Writes, Corrects}
use Rattle.format.specs.Laws.Legal.{Legal}
use Rattle.format.specs.Laws.Zero.{Judged, Counted}

-- What a family brings for its records of type R: those of them that a caller can lend, the values of a record, the record of values, and the record with one field changed.
pub record Family (l : Layout) (R : Type 0) (Lent : R → Type 0) (values_of : R → List ℕ) (record_of : List ℕ → R) (changed : ℕ → ℕ → R → R) : Type 0 where
  pub sound : Sound l
  pub judged : Judged l.fmt
  pub counted : (r : R) → Lent r → Counted l.fmt 0 (values_of r)
  pub same_record : (r : R) → Lent r → Legal l.fmt [] (values_of r) → record_of (values_of r) ≡ r
  pub same_values : (vs : List ℕ) → Legal l.fmt [] vs → values_of (record_of vs) ≡ vs
  pub can_lend : (vs : List ℕ) → Legal l.fmt [] vs → Lent (record_of vs)
  pub changes : (r : R) (i v p w : ℕ) → Lent r → spot l.fmt [] (values_of r) i ≡ found p w → v < 2 ^ w
      → (values_of (changed i v r) ≡ set (values_of r) i v) × Lent (changed i v r)

-- ---- two answers that a promise allows are equal

pub one_reading : {A : Type 0} (x a b : A) → a ≡ x → b ≡ x → a ≡ b
one_reading x a b d e = d ∙ sym e

pub one_writing : (l : Layout) (s vs : List ℕ) (c d : Verdict) (t u : List ℕ) → Writes l s c t vs → Writes l s d u vs → (c ≡ d) × (t ≡ u)
one_writing l s vs c d t u = one_answer (λ c. leaves (into s (write_message l vs)) s)

pub one_correction : (l : Layout) (s : List ℕ) (i v : ℕ) (c d : Verdict) (t u : List ℕ) → Corrects l s i v c t → Corrects l s i v d u → (c ≡ d) × (t ≡ u)
one_correction l s i v c d t u = one_answer (λ c. leaves (correct_message l s i v) s)

-- ---- a refusal leaves every byte

pub refused_stands : {A : Type 0} (o : Out A) (s t : A) (code : Verdict) → code ≡ told o → t ≡ leaves o s → (code.code ≡ 0 → ⊥) → t ≡ s
refused_stands (accepted u) s t code z x h = absurd (h (ap (λ c. c.code) z))
refused_stands (refused c p) s t code z x h = x

pub refused_writing : (l : Layout) (s vs : List ℕ) (code : Verdict) (t : List ℕ) → Writes l s code t vs → (code.code ≡ 0 → ⊥) → t ≡ s
refused_writing l s vs code t (z, x) h = refused_stands (into s (write_message l vs)) s t code z x h

pub refused_correction : (l : Layout) (s : List ℕ) (i v : ℕ) (code : Verdict) (t : List ℕ) → Corrects l s i v code t → (code.code ≡ 0 → ⊥) → t ≡ s
refused_correction l s i v code t (z, x) h = refused_stands (correct_message l s i v) s t code z x h

-- a message with room for it, in front of a lent buffer
pub roomy : (u m : List ℕ) → length m ≤ length u → into u (accepted m) ≡ accepted (m ++ drop (length m) u)
roomy u m h = rw (le-leb (length m) (length u) h) refl
