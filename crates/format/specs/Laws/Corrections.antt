-- A family's correction in place, from its own answers: laws/Correcting said of the record that was read and where its fields stand. Assumes nothing.
use Rattle.std.specs.Prelude.{◌≡◌, Bool, true, false, List, ℕ, ◌-◌}
use Rattle.format.specs.Message.{Layout}
use Rattle.format.specs.Refusals.{bare}
use Rattle.format.specs.Refusals.{Verdict}
use Rattle.format.specs.Promises.{answered, read_record, Corrects}
use Rattle.format.specs.Laws.Answers.{read_code}
use Rattle.format.specs.Laws.Correcting.{own_refusal}

-- how many of n bytes the fields have: all but the seal
abbrev pub inside : Bool → ℕ → ℕ
inside false n = n
inside true n = n - 1

-- What reading refused is answered at once: the refusal n of its answer a.
pub family_refused : {R A : Type 0} (l : Layout) (record_of : List ℕ → R) (good : R → A) (bad : Verdict → A) (refusal_of : A → Verdict) → ((r : R) → refusal_of (good r) ≡ bare 0) → ((c : Verdict) → refusal_of (bad c) ≡ c)
    → (s : List ℕ) (i v : ℕ) {a : A} {n : Verdict} → a ≡ answered good bad (read_record l record_of s) → n ≡ refusal_of a → (n.code ≡ 0 → ⊥) → Corrects l s i v n s
family_refused l record_of good bad refusal_of of-good of-bad s i v reads is = own_refusal l s i v (read_code good bad record_of refusal_of of-good of-bad l s reads is)
