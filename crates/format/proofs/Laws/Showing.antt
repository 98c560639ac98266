-- What a call shows of a message that it read: a part of the record, or nothing where the message is refused. Assumes nothing.
use Rattle.std.specs.Prelude.{◌≡◌, List, ℕ}
use Rattle.std.proofs.Common.{sym, ap}
use Rattle.format.specs.Fmt.{accepted, also}
use Rattle.format.specs.Message.{Layout, told, read_message}
use Rattle.format.specs.Refusals.{bare}
use Rattle.format.specs.Refusals.{Verdict}
use Rattle.format.specs.Promises.{answered, read_record}
use Rattle.format.specs.Laws.Answers.{read_code}
use Rattle.format.specs.Laws.Correcting.{accepted_by, refused_by_lem}
use Rattle.format.specs.Laws.Zero.{Judged}
use Rattle.format.proofs.Laws.Zero.{read_zero_message}

-- the answer a of reading s has the refusal n; of a good record `show` is shown
module _ (l : Layout) (numbers : Judged l.fmt) {R A C : Type 0} (good : R → A) (bad : Verdict → A) (record_of : List ℕ → R) (refusal_of : A → Verdict) (of-good : (r : R) → refusal_of (good r) ≡ bare 0)
    (of-bad : (c : Verdict) → refusal_of (bad c) ≡ c) (show : R → C) (none : C) (s : List ℕ) {a : A} {n : Verdict} (reads : a ≡ answered good bad (read_record l record_of s)) (is : n ≡ refusal_of a) where
  code : n ≡ told (read_message l s)
  code = read_code good bad record_of refusal_of of-good of-bad l s reads is

  pub shows_none : (n.code ≡ 0 → ⊥) → none ≡ answered show (λ n. none) (read_record l record_of s)
  shows_none h = let (c, p, e, k) = refused_by_lem (read_message l s) code h in ap (λ o. answered show (λ n. none) (also record_of o)) (sym e)

  pub shows_values : n.code ≡ 0 → (vs : List ℕ) × (read_message l s ≡ accepted vs) × (answered show (λ n. none) (read_record l record_of s) ≡ show (record_of vs))
  shows_values z =
      let (vs, e) = accepted_by (read_message l s) code (λ p. read_zero_message l s p numbers) z in
      (vs, e, ap (λ o. answered show (λ n. none) (also record_of o)) e)
