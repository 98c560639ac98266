-- The rule of the table of slots, over any table: the answer is the fewest slots that hold the bytes, and a refusal means that none do. Assumes nothing.
use Rattle.std.specs.Prelude.{◌≡◌, refl, Bool, true, false, cond, List, [], ◌∷◌, ℕ, zero, suc, ◌+◌, ◌≤◌, ◌<◌, leb, eqb, length, get_or, drop}
use Rattle.std.proofs.Common.{sym, ap, ◌∙◌, arith, drop-cons, leb-true, leb-false, eqb-true}
use Rattle.std.proofs.Math.Seq.{drop-length}
use Rattle.std.proofs.lemmas.Bool.{eqb-false}
use Rattle.format.specs.Fmt.{accepted, refused}
use Rattle.ais.specs.Slots.{first_of, slots_in}

-- limit number j, of those from number k on, is the first that n does not pass
pub record Fewest (k : ℕ) (ls : List ℕ) (n m : ℕ) : Type 0 where
  pub j : ℕ
  pub is : m ≡ k + j
  pub there : j < length ls
  pub holds : n ≤ get_or ls j 0
  pub before : (i : ℕ) → i < j → get_or ls i 0 < n

pub first_fewest : (k : ℕ) (ls : List ℕ) (n m : ℕ) → first_of k ls n ≡ accepted m → Fewest k ls n m
unfolding first_of
first_fewest k [] n m e = let z : ◌≡◌ {A = ℕ} 0 1 = cc in absurd (omega arith)
first_fewest k (l ∷ ls) n m e = go (leb n l) refl (λ e. first_fewest (suc k) ls n m e) e
  where
    below : l < n → (j : ℕ) → ((i : ℕ) → i < j → get_or ls i 0 < n) → (i : ℕ) → i < suc j → get_or (l ∷ ls) i 0 < n
    below x j f zero z = x
    below x j f (suc i) z = f i (omega arith)

    go : (b : Bool) → leb n l ≡ b → (first_of (suc k) ls n ≡ accepted m → Fewest (suc k) ls n m) → cond b (accepted k) (first_of (suc k) ls n) ≡ accepted m → Fewest k (l ∷ ls) n m
    go true b next e = let z : k ≡ m = cc in record { j = 0; is = omega (arith, z); there = omega arith; holds = leb-true n l b; before = λ i z. absurd (omega (arith, z)) }
    go false b next e =
        let f = next e in
        record { j = suc f.j; is = omega (arith, f.is); there = omega (arith, f.there); holds = f.holds; before = below (leb-false n l b) f.j f.before }

pub first_none : (k : ℕ) (ls : List ℕ) (n c p : ℕ) → first_of k ls n ≡ refused c p → (c ≡ 1) × ((i : ℕ) → i < length ls → get_or ls i 0 < n)
unfolding first_of
first_none k [] n c p e = let z : 1 ≡ c = cc in (sym z, λ i z. absurd (omega (arith, z)))
first_none k (l ∷ ls) n c p e = go (leb n l) refl (λ e. first_none (suc k) ls n c p e) e
  where
    below : l < n → ((i : ℕ) → i < length ls → get_or ls i 0 < n) → (i : ℕ) → i < length (l ∷ ls) → get_or (l ∷ ls) i 0 < n
    below x f zero z = x
    below x f (suc i) z = f i (omega arith)

    go : (b : Bool) → leb n l ≡ b → (first_of (suc k) ls n ≡ refused c p → (c ≡ 1) × ((i : ℕ) → i < length ls → get_or ls i 0 < n)) → cond b (accepted k) (first_of (suc k) ls n) ≡ refused c p
        → (c ≡ 1) × ((i : ℕ) → i < length (l ∷ ls) → get_or (l ∷ ls) i 0 < n)
    go true b next e = let z : ◌≡◌ {A = ℕ} 0 1 = cc in absurd (omega arith)
    go false b next e = let (a, f) = next e in (a, below (leb-false n l b) f)

-- The slots of some bytes are the fewest that hold them: limit number m - 1 does, and none before it.
pub slots_fewest : (ls : List ℕ) (n m : ℕ) → slots_in ls n ≡ accepted m → (0 < n) × Fewest 1 ls n m
unfolding slots_in
slots_fewest ls n m e = go (eqb n 0) refl e
  where
    go : (b : Bool) → eqb n 0 ≡ b → cond b (refused 1 0) (first_of 1 ls n) ≡ accepted m → (0 < n) × Fewest 1 ls n m
    go true b e = let z : ◌≡◌ {A = ℕ} 0 1 = cc in absurd (omega arith)
    go false b e = let z = eqb-false n 0 b in (omega arith, first_fewest 1 ls n m e)

-- Refused, there are no bytes, or more than any limit.
pub slots_none : (ls : List ℕ) (n c p : ℕ) → 0 < n → slots_in ls n ≡ refused c p → (c ≡ 1) × ((i : ℕ) → i < length ls → get_or ls i 0 < n)
unfolding slots_in
slots_none ls n c p l e = go (eqb n 0) refl e
  where
    go : (b : Bool) → eqb n 0 ≡ b → cond b (refused 1 0) (first_of 1 ls n) ≡ refused c p → (c ≡ 1) × ((i : ℕ) → i < length ls → get_or ls i 0 < n)
    go true b e = absurd (omega (arith, eqb-true n 0 b))
    go false b e = first_none 1 ls n c p e

-- ---- a walk along the table, which stands at limit number i

pub first_at : (k : ℕ) (ls : List ℕ) (n i : ℕ) → i < length ls → first_of k (drop i ls) n ≡ cond (leb n (get_or ls i 0)) (accepted k) (first_of (suc k) (drop (suc i) ls) n)
unfolding first_of
first_at k ls n i l = ap (λ l. first_of k l n) (drop-cons ls i 0 l)

pub first_past : (k : ℕ) (ls : List ℕ) (n i : ℕ) → i ≡ length ls → first_of k (drop i ls) n ≡ refused 1 0
unfolding first_of
first_past k ls n i e = ap (λ i. first_of k (drop i ls) n) e ∙ ap (λ l. first_of k l n) (drop-length ls)
