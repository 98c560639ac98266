-- Demand 3 in one piece, for every family: each correction ends as `Settled` says. By cases, as it does: the message's own refusal, no such field, too wide, and else writing and reading again agree. Assumes nothing.
use Rattle.std.specs.Prelude.{◌≡◌, Bool, true, false, cond, List, ℕ, ◌^◌, eqb, ltb}
use Rattle.std.proofs.Math.Path.{refl}
use Rattle.std.proofs.Common.{sym, ap, ◌∙◌, arith, eqb-true}
use Rattle.std.proofs.lemmas.Bool.{eqb-false}
use Rattle.bits.specs.Laws.Answers.{one_answer}
use Rattle.format.specs.Fmt.{Out, accepted, refused, Spot, none, found}
use Rattle.format.specs.Message.{Layout, told, leaves, into, write_message}
use Rattle.format.specs.Refusals.{shown}
use Rattle.format.specs.Refusals.{Verdict}
use Rattle.format.specs.Promises.{Writes}
use Rattle.format.specs.Settled.{Stays, AsWritten, SettledAt, SettledBy, Settled}

-- another promise of writing does, where it says as much of the changed record
module _ {R : Type 0} (stands : R → Spot) (seal : Bool) (s : List ℕ) (v : ℕ) where
  pub settled_with : (writes writes' : R → List ℕ → Verdict → List ℕ → Type 0) (o : Out R) (code : Verdict) (t : List ℕ)
      → ((r : R) (p w : ℕ) → o ≡ accepted r → stands r ≡ found p w → (u : List ℕ) (d : Verdict) (x : List ℕ) → writes' r u d x → writes r u d x)
      → SettledBy writes stands seal s o v code t → SettledBy writes' stands seal s o v code t
  settled_with writes writes' (refused c p) code t f e = e
  settled_with writes writes' (accepted r) code t f e = at (stands r) refl e
    where
      at : (x : Spot) → stands r ≡ x → SettledAt (writes r) seal s x v code t → SettledAt (writes' r) seal s x v code t
      at none k e = e
      at (found p w) k e = by (ltb v (2 ^ w)) e
        where
          by : (b : Bool) → cond b (AsWritten (writes r) seal s p w v code t) (Stays (shown 4 p) s code t) → cond b (AsWritten (writes' r) seal s p w v code t) (Stays (shown 4 p) s code t)
          by true e = record { answers = λ u room d x h. e.answers u room d x (f r p w refl k u d x h); good = e.good; bad = e.bad }
          by false e = e

-- The endings exclude one another: two answers that one allows are equal, where writing a record into s answers something.
module _ {R : Type 0} (writes : R → List ℕ → Verdict → List ℕ → Type 0) (stands : R → Spot) (seal : Bool) (s : List ℕ) (v : ℕ) (some : (r : R) → (d : Verdict) × (x : List ℕ) × writes r s d x) (c d : Verdict) (t u : List ℕ) where
  one_written : (r : R) (p w : ℕ) → AsWritten (writes r) seal s p w v c t → AsWritten (writes r) seal s p w v d u → (c ≡ d) × (t ≡ u)
  one_written r p w x y = (same, go (eqb c.code 0) refl)
    where
      same : c ≡ d
      same = let (e, z, wrote) = some r in (x.answers s (omega arith) e z wrote).0 ∙ sym (y.answers s (omega arith) e z wrote).0

      go : (b : Bool) → eqb c.code 0 ≡ b → t ≡ u
      go true k = let z = eqb-true c.code 0 k in (x.good z).is ∙ sym (y.good (ap (λ r. r.code) (sym same) ∙ z)).is
      go false k = let n = eqb-false c.code 0 k in x.bad n ∙ sym (y.bad (λ z. n (ap (λ r. r.code) same ∙ z)))

  one_ending : (o : Out R) → SettledBy writes stands seal s o v c t → SettledBy writes stands seal s o v d u → (c ≡ d) × (t ≡ u)
  one_ending (refused n p) x y = one_answer (λ c. s) x y
  one_ending (accepted r) x y = at (stands r) x y
    where
      at : (k : Spot) → SettledAt (writes r) seal s k v c t → SettledAt (writes r) seal s k v d u → (c ≡ d) × (t ≡ u)
      at none x y = one_answer (λ c. s) x y
      at (found p w) x y = by (ltb v (2 ^ w)) x y
        where
          by : (b : Bool) → cond b (AsWritten (writes r) seal s p w v c t) (Stays (shown 4 p) s c t) → cond b (AsWritten (writes r) seal s p w v d u) (Stays (shown 4 p) s d u) → (c ≡ d) × (t ≡ u)
          by true x y = one_written r p w x y
          by false x y = one_answer (λ c. s) x y

-- So what `Settled` says decides the refusal and every byte, as the promise `Corrects` does.
pub one_settled : {R : Type 0} (l : Layout) (spot_of : R → ℕ → Spot) (values_of : R → List ℕ) (changed : ℕ → ℕ → R → R) (s : List ℕ) (o : Out R) (i v : ℕ) (c d : Verdict) (t u : List ℕ)
    → Settled l spot_of values_of changed s o i v c t → Settled l spot_of values_of changed s o i v d u → (c ≡ d) × (t ≡ u)
one_settled l spot_of values_of changed s o i v c d t u =
    one_ending (λ r u d x. Writes l u d x (values_of (changed i v r))) (λ r. spot_of r i) l.seal s v (λ r. let w = into s (write_message l (values_of (changed i v r))) in (told w, leaves w s, (refl, refl))) c d t u o
