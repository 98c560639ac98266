-- The code corrects in place: it changes the field's bits, reads the fields again, puts the old bits back where they are refused, and makes the seal anew. Its steps have one answer each. Assumes nothing.
use Rattle.std.specs.Prelude.{◌≡◌, Bool, false, cond, ℕ, ◌^◌, ltb}
use Rattle.std.proofs.Math.Path.{refl}
use Rattle.std.proofs.Common.{sym, ap, ◌∙◌, subst, eqb-true}
use Rattle.std.proofs.lemmas.Bool.{eqb-false}
use Rattle.std.proofs.Math.Bool.{true}
use mathlib.Core.List.{List}
use Rattle.std.proofs.Math.Dec.{eqb}
use Rattle.bits.specs.Answers.{got}
use Rattle.format.specs.Correcting.{admitted, put_in, Finishes, InPlace}
use Rattle.format.specs.Refusals.{shown, bare}
use Rattle.format.specs.Refusals.{Verdict}
use Rattle.format.specs.Promises.{Corrects}
use Rattle.format.specs.Fmt.{Out, accepted, refused}
use Rattle.format.specs.Message.{Layout, body, told, read_message, correct_message, refuses}

-- a correction that goes on is of a message that was read
pub admitted_clean : (c : Verdict) (p w v : ℕ) → (admitted c p w v).code ≡ 0 → c.code ≡ 0
admitted_clean c p w v = go (eqb c.code 0) refl
  where
    go : (x : Bool) → eqb c.code 0 ≡ x → (cond x (cond (eqb w 0) (bare 10) (cond (ltb v (2 ^ w)) (bare 0) (shown 4 p))) c).code ≡ 0 → c.code ≡ 0
    go true e z = eqb-true c.code 0 e
    go false e z = z

-- an answer by what is told of it, where 0 is no refusal's number
pub accepted_by : {A : Type 0} (o : Out A) {c : Verdict} → c ≡ told o → ((p : ℕ) → o ≡ refused 0 p → ⊥) → c.code ≡ 0 → (a : A) × (o ≡ accepted a)
accepted_by (accepted a) e n z = (a, refl)
accepted_by (refused d p) e n z = absurd (n p (ap (λ d. refused d p) (ap (λ r. r.code) (sym e) ∙ z)))

pub refused_by_lem : {A : Type 0} (o : Out A) {c : Verdict} → c ≡ told o → (c.code ≡ 0 → ⊥) → (d p : ℕ) × (o ≡ refused d p) × (c ≡ shown d p)
refused_by_lem (accepted a) e n = absurd (n (ap (λ r. r.code) e))
refused_by_lem (refused d p) e n = (d, p, refl, e)

-- A message that was refused is not corrected.
pub own_refusal : (l : Layout) (s : List ℕ) (i v : ℕ) {c : Verdict} → c ≡ told (read_message l s) → (c.code ≡ 0 → ⊥) → Corrects l s i v c s
unfolding correct_message
own_refusal l s i v reads n =
    let (d, q, o, k) = refused_by_lem (read_message l s) reads n in
    let a = refuses {s = s} (own d q o) in
    (k ∙ a.0, a.1)
  where
    own : (d q : ℕ) → read_message l s ≡ refused d q → correct_message l s i v ≡ refused d q
    own d q o = rw o refl

-- ---- two answers that the promises of its steps allow are equal

pub one_finishing : (seal : Bool) (code : Verdict) (at width old : ℕ) (d : Verdict) (t : List ℕ) (last last' : Verdict) (x x' : List ℕ) → Finishes seal code at width old d t last x → Finishes seal code at width old d t last' x'
    → (last ≡ last') × (x ≡ x')
one_finishing seal code at width old d t last last' x x' a b = (a.answers ∙ sym b.answers, a.leaves ∙ sym b.leaves)

-- the whole correction, where its rereadings of the same bytes tell the same
pub one_in_place : {A : Type 0} (seal : Bool) (rereads : List ℕ → A → Type 0) (tells : A → Verdict) (s : List ℕ) (p w v : ℕ) (c c' : Verdict) (x x' : List ℕ)
    → ((t : List ℕ) (d d' : A) → rereads t d → rereads t d' → tells d ≡ tells d')
    → InPlace seal rereads tells s p w v c x → InPlace seal rereads tells s p w v c' x' → (c ≡ c') × (x ≡ x')
one_in_place seal rereads tells s p w v c c' x x' alike a b = go (eqb n 0) refl
  where
    n : ℕ
    n = (admitted (bare 0) p w v).code

    go : (z : Bool) → eqb n 0 ≡ z → (c ≡ c') × (x ≡ x')
    go true e =
        let (d, is, done) = a.changes (eqb-true n 0 e) in
        let (d', is', done') = b.changes (eqb-true n 0 e) in
        let t = put_in s p w v in
        let same = alike (body seal t) d d' is is' in
        one_finishing seal (bare 0) p w (got s p w) (tells d') t c c' x x' (subst (λ k. Finishes seal (bare 0) p w (got s p w) k t c x) same done) done'
    go false e =
        let (told, left) = a.stays (eqb-false n 0 e) in
        let (told', left') = b.stays (eqb-false n 0 e) in
        (told ∙ sym told', left ∙ sym left')
