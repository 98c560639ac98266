-- `fields` is the walk over the fields, behind the first tests; what either refuses is handed on.
use Rattle.std.specs.Prelude.{◌≡◌, refl, ℕ, List, Result, Ok, Err, IsErrAnd, IfOk}
use Rattle.std.proofs.Common.{sym, ap, ◌∙◌, eq-eqb, ne_eqb}
use Rattle.format.specs.declared.Refusal.{Refusal}
use Rattle.format.specs.Refusals.{bare, shown, seen_refusal, code_of, told_of}
use Rattle.format.specs.Laws.Outcomes.{number_some, told_exit}
use Rattle.format.specs.Laws.Refusals.{shown_bare}
use Rattle.tide.specs.Steps.{Course, unread_by, behind, head_read, course_of}
use Rattle.tide.specs.Tide.{tides}
use Rattle.tide.proofs.reading.fields.Goals as goal

-- a refusal tells no walk
none_passed : {A E : Type 0} (P : E → Type 0) (Q : A → Type 0) (x : Result A E) → IsErrAnd x P → IfOk x Q
none_passed P Q (Ok a) h = absurd h
none_passed P Q (Err e) h = tt

led : {A : Type 0} (x : Result A Refusal) (n : ℕ) → IsErrAnd x (λ f. seen_refusal f ≡ bare n) → told_of x ≡ bare n
led (Ok a) n h = absurd h
led (Err f) n h = h

-- the whole walk, by what the first tests say
unread : (i : ℕ) (s : List ℕ) → (tides.lead s ≡ 0 → ⊥) → course_of i s ≡ unread_by (tides.lead s)
unfolding course_of
unread i s n = rw (ne_eqb (tides.lead s) 0 n) refl

walked : (i : ℕ) (s : List ℕ) → tides.lead s ≡ 0 → behind s (head_read i s) ≡ course_of i s
unfolding course_of
walked i s e = rw (eq-eqb (tides.lead s) 0 e) refl

pub returns-in_err-lead : goal.returns-in_err-lead
returns-in_err-lead c =
    let a = c.args in
    let n = tides.lead a.s.now in
    let own = c.in_err-lead.ensures in
    let x = c.from_residual.result in
    let is = unread a.want a.s.now (λ z. number_some _ (own ∙ z)) in
    record {
      told = led x _ c.from_residual.ensures.1 ∙ ap bare own ∙ sym (shown_bare n) ∙ sym (ap (λ (f : Course). shown f.walk.code f.walk.offset) is);
      passed = none_passed _ _ x c.from_residual.ensures.1;
    }

pub returns-in_err-passed : goal.returns-in_err-passed
returns-in_err-passed c =
    let a = c.args in
    let x = c.from_residual-in_err-passed.result in
    let e = c.from_residual-in_err-passed.ensures.1 in
    let is = c.walked-f.ensures ∙ walked a.want a.s.now (sym c.lead.ensures ∙ ap code_of c.in_ok-lead.was) in
    record {
      told = told_exit x _ e ∙ c.in_err-passed.ensures ∙ ap (λ (f : Course). shown f.walk.code f.walk.offset) is;
      passed = none_passed _ _ x e;
    }

pub returns : goal.returns
returns c =
    let a = c.args in
    let is = c.walked-f.ensures ∙ walked a.want a.s.now (sym c.lead.ensures ∙ ap code_of c.in_ok-lead.was) in
    record { told = c.in_ok-passed.ensures ∙ ap (λ (f : Course). shown f.walk.code f.walk.offset) is; passed = is }
