-- Calls that are lent rows, for any answer and any layout: 0 is an acceptance; what a test that comes last lets through; and writing from a row that may be too short, which where the row has enough is what every writing is. Assumes nothing.
use Rattle.std.specs.Prelude.{◌≡◌, refl, Bool, true, false, cond, List, ℕ}
use Rattle.std.proofs.Common.{sym, ap, ◌∙◌, arith}
use Rattle.bits.specs.Laws.Answers.{one_answer}
use Rattle.format.specs.Fmt.{Out, accepted, refused, or_bad, check, also}
use Rattle.format.specs.Message.{told, leaves, into}
use Rattle.format.specs.Refusals.{Verdict}
use Rattle.format.specs.Promises.{tested, Lays}
use Rattle.format.specs.Laws.Family.{refused_stands}

-- a record's answer tells what its values' does
pub same_code : {A B : Type 0} (f : A → B) (o : Out A) → told o ≡ told (also f o)
same_code f (accepted x) = refl
same_code f (refused c p) = refl

-- an answer without refusal that leaves t is an acceptance of t, where nothing is refused by 0
pub zero_stands : {A : Type 0} (o : Out A) (s t : A) (code : Verdict) → ((p : ℕ) → o ≡ refused 0 p → ⊥) → code ≡ told o → t ≡ leaves o s → code.code ≡ 0 → o ≡ accepted t
zero_stands (accepted u) s t code never z x h = ap accepted (sym x)
zero_stands (refused c p) s t code never z x h = absurd (never p (ap (λ c. refused c p) (ap (λ r. r.code) (sym z) ∙ h)))

-- ---- a test that comes last

-- where 0 is answered, what was tested was accepted, and the test held
pub tested_zero : {A : Type 0} (test : A → Bool) (o : Out A) → ((p : ℕ) → o ≡ refused 0 p → ⊥) → (told (tested test o)).code ≡ 0 → (x : A) × (o ≡ accepted x) × (test x ≡ true) × (tested test o ≡ accepted x)
tested_zero test (accepted x) never z = go (test x) refl z
  where
    go : (b : Bool) → test x ≡ b → (told (check (or_bad b 6) 0 (accepted x))).code ≡ 0 → (y : _) × (accepted x ≡ accepted y) × (test y ≡ true) × (tested test (accepted x) ≡ accepted y)
    go true e z = (x, refl, e, rw e refl)
    go false e z = absurd (omega (arith, z))
tested_zero test (refused c p) never z = absurd (never p (ap (λ c. refused c p) z))

-- ---- writing from a row

-- A refusal leaves the buffer.
pub refused_laying : (has : Bool) (o : Out (List ℕ)) (s : List ℕ) (code : Verdict) (t : List ℕ) → Lays has o s code t → (code.code ≡ 0 → ⊥) → t ≡ s
refused_laying true o s code t (z, x) h = refused_stands (into s o) s t code z x h
refused_laying false o s code t (z, x) h = x

-- two answers that it allows are equal
pub one_laying : (has : Bool) (o : Out (List ℕ)) (s : List ℕ) (c d : Verdict) (t u : List ℕ) → Lays has o s c t → Lays has o s d u → (c ≡ d) × (t ≡ u)
one_laying has o s c d t u = one_answer (λ c. cond has (leaves (into s o) s) s)
