-- The numbers that are not held, as a list in front of a row: one number more, and how many they are. Assumes nothing.
use Rattle.std.specs.Prelude.{ℕ, zero, suc, ◌+◌, ◌≤◌, ◌<◌, Bool, true, false, cond, List, [], ◌∷◌, ◌++◌, ◌≡◌, refl, length, get_or, drop, set}
use Rattle.std.proofs.Common.{append-nil, ap, ◌∙◌, arith, add-one, eq-eqb, ne_eqb, length-append, drop-cons}
use Rattle.std.proofs.Math.Decide.{le_ind}
use Rattle.std.proofs.lemmas.List.{set_at}
use Rattle.std.proofs.Math.Seq.{append_snoc}
use Rattle.places.specs.Desk.{missing_below}
use Rattle.places.specs.Places.{held, lacks}
use Rattle.places.specs.declared.Place.{Place}

missing_more : (n : ℕ) (p : Place) → missing_below (suc n) p ≡ missing_below n p ++ cond (lacks p n) (n ∷ []) []
unfolding missing_below
missing_more n p = refl

-- a number that is not held stands last, a held one adds nothing
pub missing_lacking : (n : ℕ) (p : Place) → held p n ≡ 0 → missing_below (n + 1) p ≡ missing_below n p ++ (n ∷ [])
missing_lacking n p h = rw add-one (missing_more n p ∙ rw (eq-eqb (held p n) 0 h) refl)

pub missing_held : (n : ℕ) (p : Place) → (held p n ≡ 0 → ⊥) → missing_below (n + 1) p ≡ missing_below n p
missing_held n p h = rw add-one (missing_more n p ∙ rw (ne_eqb (held p n) 0 h) (append-nil (missing_below n p)))

pub missing_within : (m n : ℕ) (p : Place) → m ≤ n → length (missing_below m p) ≤ length (missing_below n p)
missing_within m n p h =
    le_ind {n = m} (λ k. length (missing_below m p) ≤ length (missing_below k p)) (omega arith)
    (λ k _ l. omega (arith, l, ap length (missing_more k p) ∙ length-append (missing_below k p) (cond (lacks p k) (k ∷ []) []))) n h

-- each number that is not held has its own place in the list
pub missing_room : (k n : ℕ) (p : Place) → k < n → held p k ≡ 0 → length (missing_below k p) < length (missing_below n p)
missing_room k n p h e =
    omega (arith, missing_within (k + 1) n p (omega arith), ap length (missing_lacking k p e), length-append (missing_below k p) (k ∷ []))

pub missing_few : (n : ℕ) (p : Place) → length (missing_below n p) ≤ n
unfolding missing_below
missing_few zero p = omega arith
missing_few (suc n) p =
    omega (arith, missing_few n p, length-append (missing_below n p) (cond (lacks p n) (n ∷ []) []), one (lacks p n))
  where
    one : (b : Bool) → length (cond b (n ∷ []) []) ≤ 1
    one true = omega arith
    one false = omega arith

-- a row with ns in front takes one more number behind them
pub front_more : (ns w : List ℕ) (k : ℕ) → length ns < length w → set (ns ++ drop (length ns) w) (length ns) k ≡ (ns ++ (k ∷ [])) ++ drop (length (ns ++ (k ∷ []))) w
front_more ns w k h =
    let n = length-append ns (k ∷ []) in
    let e : length (ns ++ (k ∷ [])) ≡ suc (length ns) = omega (arith, n) in
    ap (λ x. set (ns ++ x) (length ns) k) (drop-cons w (length ns) 0 h)
    ∙ set_at ns (get_or w (length ns) 0) (drop (suc (length ns)) w) k (length ns) refl
    ∙ rw (e, append_snoc) refl
