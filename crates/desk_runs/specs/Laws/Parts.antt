-- Packets of one notice that have come: their contents, and that `not_come` lists all and only the numbers that have not, rising. Assumes nothing.
use Rattle.std.specs.Prelude.{◌≡◌, refl, Bool, true, false, not, cond, ◌||◌, ◌↔◌, ◌⊎◌, ℕ, zero, suc, ◌≤◌, ◌<◌, eqb, length}
use Rattle.std.proofs.Common.{sym, ap, ◌∙◌, subst, inl, inr, arith, eqb-true, ne_eqb}
use mathlib.Core.List.Memᴰ
use mathlib.Core.List.{List, [], ◌∷◌, ◌++◌, Memᴰ}
use Rattle.std.proofs.lemmas.Bool.{eqb-false}
use Rattle.packet.specs.Packet.{most_packets, part_bytes_of}
use Rattle.packet.specs.Laws.Accepted.{Fit}
use Rattle.desk_runs.specs.Runs.{Part, came, content_of, not_come}

-- what holds of each of asking's four answers
pub each_answer : {A B : Type 0} (f : A → B) (u v w : Bool) (a b c d : A) → f (cond u (cond v a b) (cond w c d)) ≡ cond u (cond v (f a) (f b)) (cond w (f c) (f d))
each_answer f true true w a b c d = refl
each_answer f true false w a b c d = refl
each_answer f false v true a b c d = refl
each_answer f false v false a b c d = refl

-- ---- what each of them has

-- a good packet of a notice with t packets in language l
pub record Member (t l : ℕ) (x : Part) : Type 0 where
  pub fit : Fit x.0 x.1
  pub total : x.0.total ≡ t
  pub language : x.0.language ≡ l

abbrev pub Members : ℕ → ℕ → List Part → Type 0
Members t l [] = Unit
Members t l (x ∷ xs) = Member t l x × Members t l xs

pub member_of : (t l : ℕ) (xs : List Part) → Members t l xs → (y : Part) → Memᴰ y xs → Member t l y
member_of t l [] ms y h = absurd (Memᴰ.not-nil h)
member_of t l (x ∷ xs) (m, ms) y h = go (Memᴰ.cases_cons h) (member_of t l xs ms y)
  where
    go : (y ≡ x) ⊎ Memᴰ y xs → (Memᴰ y xs → Member t l y) → Member t l y
    go (inl q) r = subst (Member t l) (sym q) m
    go (inr k) r = r k

pub content_cons : (x : Part) (xs : List Part) (k : ℕ) → content_of (x ∷ xs) k ≡ cond (eqb x.0.own k) x.1 (content_of xs k)
unfolding content_of
content_cons x xs k = refl

-- a number has come exactly where its content is not empty
pub came_content : (t l : ℕ) (xs : List Part) → Members t l xs → (k : ℕ) → eqb (length (content_of xs k)) 0 ≡ not (came xs k)
unfolding came content_of
came_content t l [] ms k = refl
came_content t l (x ∷ xs) (m, ms) k = go (eqb x.0.own k) (came_content t l xs ms k)
  where
    go : (y : Bool) → eqb (length (content_of xs k)) 0 ≡ not (came xs k) → eqb (length (cond y x.1 (content_of xs k))) 0 ≡ not (y || came xs k)
    go true r = let f = m.fit.some in ne_eqb (length x.1) 0 (λ z. omega arith)
    go false r = r

-- it is no longer than a packet's,
pub content_few : (t l : ℕ) (xs : List Part) → Members t l xs → (k : ℕ) → length (content_of xs k) ≤ part_bytes_of
unfolding content_of
content_few t l [] ms k = omega arith
content_few t l (x ∷ xs) (m, ms) k = go (eqb x.0.own k) (content_few t l xs ms k)
  where
    go : (y : Bool) → length (content_of xs k) ≤ part_bytes_of → length (cond y x.1 (content_of xs k)) ≤ part_bytes_of
    go true r = m.fit.few
    go false r = r

-- and its number is below the total
pub content_below : (t l : ℕ) (xs : List Part) → Members t l xs → (k : ℕ) → 1 ≤ length (content_of xs k) → (k < t) × (t ≤ most_packets)
unfolding content_of
content_below t l [] ms k n = absurd (omega arith)
content_below t l (x ∷ xs) (m, ms) k n = go (eqb x.0.own k) refl n (content_below t l xs ms k)
  where
    go : (y : Bool) → eqb x.0.own k ≡ y → 1 ≤ length (cond y x.1 (content_of xs k)) → (1 ≤ length (content_of xs k) → (k < t) × (t ≤ most_packets)) → (k < t) × (t ≤ most_packets)
    go true e n r =
        let is = eqb-true x.0.own k e in
        (omega (arith, is, m.fit.own, m.total), omega (arith, m.fit.total, m.total))
    go false e n r = r n

-- ---- the missing numbers

-- Exactly the numbers below t that have not come are listed,
pub all_and_only : (t : ℕ) (xs : List Part) (k : ℕ) → Memᴰ k (not_come t xs) ↔ ((k < t) × (came xs k ≡ false))
unfolding not_come
all_and_only zero xs k = (λ m. absurd (Memᴰ.not-nil m), λ h. absurd (omega (arith, h.0)))
all_and_only (suc t) xs k = (λ m. there (came xs t) refl (Memᴰ.append_cases (not_come t xs) m) (all_and_only t xs k).0, λ h. back (eqb k t) refl h (all_and_only t xs k).1)
  where
    there : (y : Bool) → came xs t ≡ y → Memᴰ k (not_come t xs) ⊎ Memᴰ k (cond y [] (t ∷ [])) → (Memᴰ k (not_come t xs) → (k < t) × (came xs k ≡ false)) → (k < suc t) × (came xs k ≡ false)
    there y e (inl m) r = let (a, b) = r m in (omega arith, b)
    there true e (inr m) r = absurd (Memᴰ.not-nil m)
    there false e (inr m) r = let q = Memᴰ.eq_of_singleton m in (omega arith, ap (came xs) q ∙ e)

    back : (y : Bool) → eqb k t ≡ y → (k < suc t) × (came xs k ≡ false) → ((k < t) × (came xs k ≡ false) → Memᴰ k (not_come t xs)) → Memᴰ k (not_come t xs ++ cond (came xs t) [] (t ∷ []))
    back true e h r =
        let q = eqb-true k t e in
        let off : came xs t ≡ false = ap (came xs) (sym q) ∙ h.1 in
        rw off (Memᴰ.append_right (not_come t xs) (Memᴰ.head q))
    back false e h r = let d = eqb-false k t e in Memᴰ.append_left (cond (came xs t) [] (t ∷ [])) (r (omega (arith, h.0, d), h.1))
