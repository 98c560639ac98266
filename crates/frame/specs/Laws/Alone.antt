-- What is told of a frame: of one with content its record alone, which the content is shown beside; and what calls hand on of that. Assumes nothing.
use Rattle.std.specs.Prelude.{◌≡◌, refl, true, false, List, ℕ, Result, Ok, Err, is_err, IsOkAnd, MatchResult}
use Rattle.std.proofs.Common.{sym, ap, ◌∙◌}
use Rattle.format.specs.Fmt.{Out, accepted, refused, also}
use Rattle.format.specs.Message.{Layout, told, read_message}
use Rattle.format.specs.Promises.{answered, read_record, out_of, plain, refused_by, verdict_of}
use Rattle.format.specs.Refusals.{told_of}
use Rattle.format.specs.Laws.Answers.{numbered}
use Rattle.format.specs.Laws.Outcomes.{number_some, told_out}
use Rattle.format.specs.Laws.Round.{clash, accepted_inj}
use Rattle.format.specs.declared.Refusal.{Refusal}

module _ {R C : Type 0} where
  -- the record alone is that of the values
  pub alone : (record_of : List ℕ → R × C) (o : Out (List ℕ)) → plain (also (λ vs. (record_of vs).0) o) ≡ plain (also (λ r. r.0) (also record_of o))
  alone record_of (accepted vs) = refl
  alone record_of (refused c p) = refl

  -- or what is answered of both
  pub answered_alone : (o : Out (R × C)) → plain (also (λ r. r.0) o) ≡ answered (λ r. accepted r.0) refused_by o
  answered_alone (accepted r) = refl
  answered_alone (refused c p) = refl

  -- a record that was read has content
  pub beside : (o : Out (R × C)) (r : R) → accepted r ≡ plain (also (λ r. r.0) o) → (c : C) × (accepted (r, c) ≡ plain o)
  beside (accepted q) r e = let same = accepted_inj e in (q.1, λ i. accepted (same i, q.1))
  beside (refused c p) r e = clash (sym e)

-- a refusal tells a number, and success 0
pub refused_told : {A : Type 0} (x : Result A Refusal) → is_err x ≡ true → (told_of x).code ≡ 0 → ⊥
refused_told (Ok a) e z = absurd cc
refused_told (Err f) e z = number_some f.reason z

pub passed_told : {A : Type 0} (x : Result A Refusal) → is_err x ≡ false → (told_of x).code ≡ 0
passed_told (Ok a) e = refl
passed_told (Err f) e = absurd cc

-- another good value tells the same
pub mapped_told : {A B : Type 0} (P : A → B → Type 0) (x : Result A Refusal) (y : Result B Refusal) → MatchResult x (λ a. IsOkAnd y (P a)) (λ e. y ≡ Err e) → told_of y ≡ told_of x
mapped_told P (Ok a) (Ok b) h = refl
mapped_told P (Ok a) (Err f) h = absurd h
mapped_told P (Err f) y h = ap told_of h

-- and an answer what the reading tells
pub reading_told : {R : Type 0} (l : Layout) (record_of : List ℕ → R) (s : List ℕ) (a : Result R Refusal) → out_of a ≡ plain (read_record l record_of s) → told_of a ≡ told (read_message l s)
reading_told l record_of s a e = told_out a ∙ ap verdict_of e ∙ numbered accepted refused_by record_of verdict_of (λ r. refl) (λ c. refl) (read_message l s)
