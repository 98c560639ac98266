-- What `every_below` and `first_from` say of each number. Assumes nothing.
use Rattle.std.specs.Prelude.{◌≡◌, refl, Bool, true, false, cond, ◌&&◌, ◌⊎◌, ℕ, zero, suc, ◌+◌, ◌≤◌, ◌<◌, eqb}
use Rattle.std.proofs.Common.{sym, ap, ◌∙◌, inl, inr, arith, eqb-true}
use Rattle.std.proofs.lemmas.Bool.{false≢true, eqb-false}
use Rattle.std.proofs.Math.Bool.{and-eq-true_iff}
use Rattle.places.specs.Places.{every_below, first_from}

-- the last number below suc n, or one below n
last_or : (i n : ℕ) → i < suc n → (i ≡ n) ⊎ (i < n)
last_or i n l = go (eqb i n) refl
  where
    go : (x : Bool) → eqb i n ≡ x → (i ≡ n) ⊎ (i < n)
    go true e = inl (eqb-true i n e)
    go false e = let d = eqb-false i n e in inr (omega arith)

-- it holds of every number below n: of each,
pub every_each : (n : ℕ) (f : ℕ → Bool) → every_below n f ≡ true → (i : ℕ) → i < n → f i ≡ true
unfolding every_below
every_each zero f e i l = absurd (omega arith)
every_each (suc n) f e i l = go ((and-eq-true_iff (every_below n f) (f n)).0 e) (last_or i n l) (λ d. every_each n f d i)
  where
    go : (every_below n f ≡ true) × (f n ≡ true) → (i ≡ n) ⊎ (i < n) → (every_below n f ≡ true → i < n → f i ≡ true) → f i ≡ true
    go (a, b) (inl q) r = ap f q ∙ b
    go (a, b) (inr m) r = r a m

-- and from each
pub each_every : (n : ℕ) (f : ℕ → Bool) → ((i : ℕ) → i < n → f i ≡ true) → every_below n f ≡ true
unfolding every_below
each_every zero f h = refl
each_every (suc n) f h = rw (each_every n f (λ i l. h i (omega arith)), h n (omega arith)) refl

-- one of which it does not hold is enough
pub some_every : (n : ℕ) (f : ℕ → Bool) (i : ℕ) → i < n → f i ≡ false → every_below n f ≡ false
some_every n f i l e = go (every_below n f) refl
  where
    go : (x : Bool) → every_below n f ≡ x → x ≡ false
    go true d = absurd (false≢true (sym e ∙ every_each n f d i l))
    go false d = refl

-- one number more
pub every_next : (k : ℕ) (f : ℕ → Bool) → every_below (k + 1) f ≡ (every_below k f && f k)
unfolding every_below
every_next k f = let e : k + 1 ≡ suc k = omega arith in rw e refl

-- the first of which it holds: it holds there, where that is not the end,
pub first_holds : (k n : ℕ) (f : ℕ → Bool) → first_from k n f < k + n → f (first_from k n f) ≡ true
unfolding first_from
first_holds k zero f l = absurd (omega arith)
first_holds k (suc n) f l = go (f k) refl l (first_holds (suc k) n f)
  where
    go : (x : Bool) → f k ≡ x → cond x k (first_from (suc k) n f) < k + suc n → (first_from (suc k) n f < suc k + n → f (first_from (suc k) n f) ≡ true) → f (cond x k (first_from (suc k) n f)) ≡ true
    go true e m r = e
    go false e m r = r (omega arith)

-- and of none before it.
pub first_least : (k n : ℕ) (f : ℕ → Bool) (i : ℕ) → k ≤ i → i < first_from k n f → f i ≡ false
unfolding first_from
first_least k zero f i a l = absurd (omega arith)
first_least k (suc n) f i a l = go (f k) refl l (first_least (suc k) n f i)
  where
    go : (x : Bool) → f k ≡ x → i < cond x k (first_from (suc k) n f) → (suc k ≤ i → i < first_from (suc k) n f → f i ≡ false) → f i ≡ false
    go true e m r = absurd (omega arith)
    go false e m r = past (eqb i k) refl
      where
        past : (y : Bool) → eqb i k ≡ y → f i ≡ false
        past true q = ap f (eqb-true i k q) ∙ e
        past false q = let d = eqb-false i k q in r (omega arith) m
