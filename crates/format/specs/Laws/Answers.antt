-- A family's own type of answer, from the walk's code, to its number, and back to the reading that it answers: for any good answers and refusals with their numbers. Assumes nothing.
use Rattle.std.specs.Prelude.{◌≡◌, refl, Bool, true, false, cond, List, [], ℕ, zero, suc, eqb}
use Rattle.std.proofs.Common.{sym, ap, ◌∙◌, add-zero}
use Rattle.format.specs.Fmt.{Out, accepted, refused, check, also}
use Rattle.format.specs.Message.{Layout, fault, first, told, leaves, refuses, read_message}
use Rattle.format.specs.Promises.{answered, refused_by, plain, read_record}
use Rattle.format.specs.Refusals.{shown, bare}
use Rattle.format.specs.Refusals.{Verdict}
use Rattle.format.specs.Laws.Lead.{read_first, held_back}
use Rattle.format.specs.Laws.Refusals.{shown_bare}
use Rattle.format.specs.Laws.Round.{clash, accepted_inj, refused_inj}

module _ {R A : Type 0} (good : R → A) (bad : Verdict → A) (record_of : List ℕ → R) where
  -- the answer of a walk that ended with the code c at bit p, of which r is told
  pub told_so : (o : Out (List ℕ)) (vs : List ℕ) (c p : ℕ) {r : Verdict} → r ≡ shown c p → o ≡ cond (eqb c 0) (accepted vs) (refused c p)
      → cond (eqb r.code 0) (good (record_of vs)) (bad r) ≡ answered good bad (also record_of o)
  told_so o vs c p is e = ap (λ r. cond (eqb r.code 0) (good (record_of vs)) (bad r)) is ∙ go (eqb c 0) ∙ ap (λ o. answered good bad (also record_of o)) (sym e)
    where
      go : (x : Bool) → cond x (good (record_of vs)) (bad (shown c p)) ≡ answered good bad (also record_of (cond x (accepted vs) (refused c p)))
      go true = refl
      go false = refl

  -- the answer of a reading whose first tests refused by c, of which r is told
  pub led_so : (l : Layout) (s : List ℕ) {c : ℕ} {r : Verdict} → c ≡ first l s → (c ≡ 0 → ⊥) → r ≡ bare c → bad r ≡ answered good bad (read_record l record_of s)
  led_so l s {c} e n is = ap bad (is ∙ sym (shown_bare c)) ∙ sym (ap (λ o. answered good bad (also record_of o)) (read_first l s e ∙ held_back c _ n))

  -- the refusal of an answer
  module _ (refusal_of : A → Verdict) (of-good : (r : R) → refusal_of (good r) ≡ bare 0) (of-bad : (c : Verdict) → refusal_of (bad c) ≡ c) where
    pub numbered : (o : Out (List ℕ)) → refusal_of (answered good bad (also record_of o)) ≡ told o
    numbered (accepted vs) = of-good (record_of vs)
    numbered (refused c p) = of-bad (shown c p)

    -- the refusal n of the answer a of reading s
    pub read_code : (l : Layout) (s : List ℕ) {a : A} {n : Verdict} → a ≡ answered good bad (read_record l record_of s) → n ≡ refusal_of a → n ≡ told (read_message l s)
    read_code l s reads is = is ∙ ap refusal_of reads ∙ numbered (read_message l s)

-- ---- an answer as it is told

pub plain_good : {R : Type 0} (o : Out R) {r : R} → plain o ≡ accepted r → o ≡ accepted r
plain_good (accepted q) e = e
plain_good (refused c p) e = clash e

-- by its refusal c, and its record where that is none
pub code_plain : {R : Type 0} (o : Out R) (c : Verdict) (r : R) → c ≡ told o → ((p : ℕ) → o ≡ refused 0 p → ⊥) → (c.code ≡ 0 → o ≡ accepted r) → check (fault c.code) c.bit (accepted r) ≡ plain o
code_plain (accepted q) c r e never is = ap (λ c. check (fault c.code) c.bit (accepted r)) e ∙ sym (is (ap (λ c. c.code) e))
code_plain (refused zero p) c r e never is = absurd (never p refl)
code_plain (refused (suc d) p) c r e never is = ap (λ c. check (fault c.code) c.bit (accepted r)) e ∙ ap (refused (suc d)) (add-zero (shown (suc d) p).bit)

-- ---- what an answer says of the reading o: `out_of` takes it apart

module _ {Q A : Type 0} (good : Q → A) (bad : Verdict → A) (out_of : A → Out Q) (of-good : (q : Q) → out_of (good q) ≡ accepted q) (of-bad : (c : Verdict) → out_of (bad c) ≡ refused_by c) where
  -- a good one tells a part of an accepted record
  module _ {R : Type 0} (part : R → Q) where
    pub good_accepts : (o : Out R) {q : Q} → good q ≡ answered (λ r. good (part r)) bad o → (r : R) × (o ≡ accepted r) × (part r ≡ q)
    good_accepts (accepted r) {q} e = (r, refl, accepted_inj (sym (of-good (part r)) ∙ ap out_of (sym e) ∙ of-good q))
    good_accepts (refused c p) {q} e = clash (sym (of-bad (shown c p)) ∙ ap out_of (sym e) ∙ of-good q)

    pub bad_refuses : (o : Out R) {c : Verdict} → bad c ≡ answered (λ r. good (part r)) bad o → (p : ℕ) × (o ≡ refused c.code p) × (c ≡ shown c.code p)
    bad_refuses (accepted r) {c} e = clash (sym (of-bad c) ∙ ap out_of e ∙ of-good (part r))
    bad_refuses (refused d p) {c} e =
        let same = refused_inj (sym (of-bad (shown d p)) ∙ ap out_of (sym e) ∙ of-bad c) in
        (p, ap (λ c. refused c p) same.0, sym (λ i. record { code = same.0 i; bit = same.1 i }) ∙ ap (λ c. shown c p) same.0)

  -- the whole of it
  pub good_read : (o : Out Q) {q : Q} → good q ≡ answered good bad o → o ≡ accepted q
  good_read o e = let (r, x, k) = good_accepts (λ r. r) o e in x ∙ ap accepted k

  -- or all but the content c that is shown beside it
  pub good_shown : (o : Out (Q × List ℕ)) {q : Q} {c : List ℕ} → good q ≡ answered (λ r. good r.0) bad o → c ≡ answered (λ r. r.1) (λ n. []) o → o ≡ accepted (q, c)
  good_shown o e d =
      let (r, x, k) = good_accepts (λ r. r.0) o e in
      let shown = d ∙ ap (answered (λ r. r.1) (λ n. [])) x in
      x ∙ (λ i. accepted (k i, sym shown i))

  -- a bad one is what the reading tells, and leaves what is lent
  pub refused_told : (o : Out Q) (s : Q) {c : Verdict} → bad c ≡ answered good bad o → (c ≡ told o) × (s ≡ leaves o s)
  refused_told o s e = let (p, is, k) = bad_refuses (λ r. r) o e in let (tells, stays) = refuses {s = s} is in (k ∙ tells, stays)

  -- what a good or a bad one tells is the reading, with the bit that is shown
  pub answer_plain : (o : Out Q) {a : A} → a ≡ answered good bad o → out_of a ≡ plain o
  answer_plain (accepted q) e = ap out_of e ∙ of-good q
  answer_plain (refused c p) e = ap out_of e ∙ of-bad (shown c p)

  pub shown_plain : (o : Out (Q × List ℕ)) {a : A} {c : List ℕ} → a ≡ answered (λ r. good r.0) bad o → c ≡ answered (λ r. r.1) (λ n. []) o → also (λ q. (q, c)) (out_of a) ≡ plain o
  shown_plain (accepted r) {a} {c} e d = ap (also (λ q. (q, c))) (ap out_of e ∙ of-good r.0) ∙ (λ i. accepted (r.0, d i))
  shown_plain (refused n p) {a} {c} e d = ap (also (λ q. (q, c))) (ap out_of e ∙ of-bad (shown n p))
