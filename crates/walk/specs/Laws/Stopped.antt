-- A walk that stops where it has refused: what it refused by is what reading the whole answers, for a refusal sticks. Assumes nothing.
use Rattle.std.specs.Prelude.{◌≡◌, ℕ, List, ◌≢◌}
use Rattle.std.proofs.Common.{sym, ap, ◌∙◌}
use Rattle.format.specs.Fmt.{Out, refused, Fmt, also}
use Rattle.format.specs.Promises.{answered}
use Rattle.format.specs.Refusals.{shown}
use Rattle.format.specs.Refusals.{Verdict}
use Rattle.walk.specs.Laws.Step.{Reading, stuck}
use Rattle.walk.specs.Walk.{Walk}

-- what reading answers where a walk r stops behind a field
pub halted : {o : Out (List ℕ)} {all : Fmt} {i : ℕ} {s : List ℕ} {f : Fmt} {h : List ℕ} {at : ℕ} {k : List ℕ → List ℕ} {r : Walk} → Reading o all i s f h at k r → (r.code ≢ 0) → o ≡ refused r.code r.offset
halted {r = r} e h = e.so ∙ stuck r _ h

-- the call's answer then, where x is told of the refusal
pub stopped : {R A : Type 0} (good : R → A) (bad : Verdict → A) (record_of : List ℕ → R) {o : Out (List ℕ)} {all : Fmt} {i : ℕ} {s : List ℕ} {f : Fmt} {h : List ℕ} {at : ℕ} {k : List ℕ → List ℕ} {r : Walk} {x : Verdict}
    → Reading o all i s f h at k r → (r.code ≢ 0) → x ≡ shown r.code r.offset → bad x ≡ answered good bad (also record_of o)
stopped good bad record_of e h is = ap bad is ∙ sym (ap (λ o. answered good bad (also record_of o)) (halted e h))
