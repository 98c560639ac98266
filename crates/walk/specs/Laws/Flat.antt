-- Writing a message of a flat layout, with no kind and no seal: the size that it makes is known. Assumes nothing.
use Rattle.std.specs.Prelude.{◌≡◌, ℕ, ◌<◌, ◌≤◌, Bool, true, false, cond, List, [], length, ◌≢◌, refl, Result, IsErrAnd}
use Rattle.std.proofs.Common.{sym, ap, ◌∙◌, arith, eq-eqb, ne_eqb, le-leb}
use Rattle.std.proofs.Math.Path.{subst⁻¹}
use Rattle.std.proofs.lemmas.Bool.{lt-leb}
use Rattle.format.specs.Fmt.{accepted, check, write}
use Rattle.walk.specs.Judging.{bytes_to}
use Rattle.format.specs.Promises.{Writes}
use Rattle.format.specs.Refusals.{shown, bare, seen_refusal, told_of}
use Rattle.format.specs.declared.Refusal.{Refusal}
use Rattle.format.specs.Laws.Outcomes.{number_some, told_exit}
use Rattle.format.specs.Refusals.{Verdict}
use Rattle.format.specs.Message.{Layout, fault, between}
use Rattle.format.specs.Laws.Extent.{Plain}
use Rattle.format.proofs.Laws.Extent.{span_laid}
use Rattle.walk.specs.Laws.Judging.{Judged}
use Rattle.walk.specs.Laws.Making.{write_refused, write_bare}
use Rattle.format.specs.Laws.Putting.{Puts}
use Rattle.walk.specs.Laws.Step.{clear}
use Rattle.walk.specs.Walk.{Walk}

module _ (l : Layout) {n : ℕ} (x : Plain l n) (s vs : List ℕ) {w : Walk} (j : Judged (write l.fmt [] 0 vs) w) where
  whole : Judged (check (fault (l.kind vs)) 0 (write l.fmt [] 0 vs)) w
  whole = subst⁻¹ (λ c. Judged (check (fault c) 0 (write l.fmt [] 0 vs)) w) (x.kindless vs) j

  pub write_fails : {r : Verdict} → r ≡ shown w.code w.offset → (w.code ≢ 0) → Writes l s r s vs
  write_fails e h = write_refused l vs s whole (e ∙ rw (ne_eqb w.code 0 h) refl) (λ z. h (ap (λ r. r.code) (sym e) ∙ z))

  -- the same where it is handed on
  pub fails_exit : {A : Type 0} (x : Result A Refusal) (f : Refusal) → IsErrAnd x (λ g. g ≡ f) → seen_refusal f ≡ shown w.code w.offset → Writes l s (told_of x) s vs
  fails_exit x f h e = subst⁻¹ (λ c. Writes l s c s vs) (told_exit x f h) (write_fails e (λ z. number_some f.reason (ap (λ v. v.code) e ∙ z)))

  module _ (h : w.code ≡ 0) where
    bytes_made : bytes_to w.at ≡ n
    bytes_made =
        let e = span_laid l.fmt [] 0 vs j.laid x.even (j.so ∙ clear w (accepted j.laid) h) ∙ x.spans in
        omega (arith, e, j.long h)

    passes : (b : Bool) (c : Verdict) → ◌≡◌ {A = ℕ} (cond b 0 1) 0 → c ≡ cond b c (bare 1)
    passes true c e = refl
    passes false c e = absurd (omega (arith, e))

    pub write_cramped : length s < n → Writes l s (bare 6) s vs
    write_cramped c = write_refused l vs s whole (rw (eq-eqb w.code 0 h, x.bare, bytes_made, lt-leb n (length s) c) (passes (between l.least l.most n) (bare 6) x.sized)) (λ z. omega (arith, z))

    pub write_flat : n ≤ length s → (t : List ℕ) → Puts l.fmt vs s t → Writes l s (bare 0) t vs
    write_flat c t p = write_bare l vs s whole {code = bare 0} x.bare (rw (eq-eqb w.code 0 h, x.bare, bytes_made, le-leb n (length s) c) (passes (between l.least l.most n) (bare 0) x.sized)) refl p
