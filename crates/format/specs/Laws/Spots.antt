-- Where the fields of a message stand, and that a number which names none finds nothing; and a list with one value changed is the list changed entry by entry: for a family's changed record. Assumes nothing.
use Rattle.std.specs.Prelude.{◌≡◌, refl, Bool, true, false, cond, List, [], ◌∷◌, ℕ, zero, suc, ◌+◌, ◌-◌, ◌^◌, ◌≤◌, ◌<◌, eqb, ltb, get_or, set}
use Rattle.std.proofs.Common.{sym, ap, ◌∙◌, subst, add-zero, zero-add, add_assoc, arith, eq-eqb, ne_eqb, eqb-true, lt-ltb, ltb-true, ltb-false}
use Rattle.format.specs.Correcting.{entry_from, entry_of}
use Rattle.format.specs.Laws.Correct.{none_clash}
use Rattle.format.specs.Fmt.{Fmt, end, field, choice, bytes, Spot, none, found, later, where?, spot}

-- the fields of the values vs, from bit `at` on: where each that may be corrected stands
unfoldable pub spots_along : Fmt → List ℕ → List ℕ → ℕ → List Spot
spots_along f h [] at = []
spots_along end h (v ∷ vs) at = []
spots_along (field w j m f) h (v ∷ vs) at = later at (where? (m h) w) ∷ spots_along f (v ∷ h) vs (at + w)
spots_along (choice w j f) h (v ∷ vs) at = none ∷ spots_along (f v) (v ∷ h) vs (at + w)
spots_along (bytes f) h (v ∷ vs) at = none ∷ spots_along (f v) (v ∷ h) vs at

pub later_later : (a b : ℕ) (x : Spot) → later a (later b x) ≡ later (a + b) x
later_later a b none = refl
later_later a b (found p u) = ap (λ q. found q u) (sym (add_assoc a b p))

spots_from : (f : Fmt) (h : List ℕ) (at : ℕ) (vs : List ℕ) (i : ℕ) → later at (spot f h vs i) ≡ get_or (spots_along f h vs at) i none
unfolding spot spots_along
spots_from f h at [] i = refl
spots_from end h at (v ∷ vs) i = refl
spots_from (field w j m f) h at (v ∷ vs) zero = refl
spots_from (field w j m f) h at (v ∷ vs) (suc i) = later_later at w (spot f (v ∷ h) vs i) ∙ spots_from f (v ∷ h) (at + w) vs i
spots_from (choice w j f) h at (v ∷ vs) zero = refl
spots_from (choice w j f) h at (v ∷ vs) (suc i) = later_later at w (spot (f v) (v ∷ h) vs i) ∙ spots_from (f v) (v ∷ h) (at + w) vs i
spots_from (bytes f) h at (v ∷ vs) zero = refl
spots_from (bytes f) h at (v ∷ vs) (suc i) = spots_from (f v) (v ∷ h) at vs i

pub spot_along : (f : Fmt) (vs : List ℕ) (i : ℕ) → spot f [] vs i ≡ get_or (spots_along f [] vs 0) i none
spot_along f vs i = unmoved (spot f [] vs i) ∙ spots_from f [] 0 vs i
  where
    unmoved : (x : Spot) → x ≡ later 0 x
    unmoved none = refl
    unmoved (found p u) = ap (λ q. found q u) (sym (zero-add p))

-- the list whose entry number i, counted from k, is v
unfoldable pub each_at : ℕ → ℕ → ℕ → List ℕ → List ℕ
each_at i v k [] = []
each_at i v k (x ∷ l) = cond (eqb i k) v x ∷ each_at i v (suc k) l

pub each_past : (i v k : ℕ) (l : List ℕ) → i < k → each_at i v k l ≡ l
unfolding each_at
each_past i v k [] h = refl
each_past i v k (x ∷ l) h = rw (ne_eqb i k (λ e. omega arith), each_past i v (suc k) l (omega arith)) refl

pub each_from : (i v k : ℕ) (l : List ℕ) → each_at (k + i) v k l ≡ set l i v
unfolding each_at
each_from i v k [] = refl
each_from zero v k (x ∷ l) = rw (eq-eqb (k + 0) k (add-zero k), each_past (k + 0) v (suc k) l (omega arith)) refl
each_from (suc i) v k (x ∷ l) =
    let e : k + suc i ≡ suc k + i = omega arith in
    rw (ne_eqb (k + suc i) k (λ z. omega arith)) (ap (x ∷◌) (ap (λ n. each_at n v (suc k) l) e ∙ each_from i v (suc k) l))

pub set_each : (i v : ℕ) (l : List ℕ) → set l i v ≡ each_at i v 0 l
set_each i v l = sym (each_from i v 0 l) ∙ ap (λ n. each_at n v 0 l) (omega arith)

-- an entry that is kept is not the one that is changed
pub kept_entry : (spot_of : ℕ → Spot) (i v : ℕ) {p w : ℕ} → spot_of i ≡ found p w → (k old : ℕ) → spot_of k ≡ none → old ≡ cond (eqb i k) v old
kept_entry spot_of i v e k old n = rw (ne_eqb i k (λ z. none_clash (sym n ∙ ap spot_of (sym z) ∙ e))) refl

-- an entry that is more than a number, and spelled by one, is changed to what its bits can spell
pub spelled_entry : {A : Type 0} (spell : A → ℕ) (of : ℕ → A) (spot_of : ℕ → Spot) (i v : ℕ) {p w : ℕ} → spot_of i ≡ found p w → v < 2 ^ w
    → (k q u : ℕ) → spot_of k ≡ found q u → (v < 2 ^ u → spell (of v) ≡ v) → (old : A) → spell (cond (eqb i k) (of v) old) ≡ cond (eqb i k) v (spell old)
spelled_entry spell of spot_of i v {p} {w} e l k q u s back old = go (eqb i k) refl
  where
    go : (b : Bool) → eqb i k ≡ b → spell (cond b (of v) old) ≡ cond b v (spell old)
    go true z =
        let y : found q u ≡ found p w = sym s ∙ ap spot_of (sym (eqb-true i k z)) ∙ e in
        let n : w ≡ u = cc in
        back (rw n at l)
    go false z = refl

-- ---- fields that code finds by their names

-- that the number i is none of those that name a field of l, of which the first has the number k; and A
unfoldable pub Unnamed : Type 0 → List Spot → ℕ → ℕ → Type 0
Unnamed A [] k i = A
Unnamed A (none ∷ l) k i = Unnamed A l (suc k) i
Unnamed A (found p w ∷ l) k i = Unnamed (A × (i ≡ k → ⊥)) l (suc k) i

besides : (A : Type 0) (l : List Spot) (k i : ℕ) → Unnamed A l k i → A
unfolding Unnamed
besides A [] k i x = x
besides A (none ∷ l) k i x = besides A l (suc k) i x
besides A (found p w ∷ l) k i x = (besides (A × (i ≡ k → ⊥)) l (suc k) i x).0

unnamed_from : (A : Type 0) (l : List Spot) (k j : ℕ) → Unnamed A l k (j + k) → get_or l j none ≡ none
unfolding Unnamed
unnamed_from A [] k j x = refl
unnamed_from A (none ∷ l) k zero x = refl
unnamed_from A (none ∷ l) k (suc j) x = unnamed_from A l (suc k) j (subst (Unnamed A l (suc k)) (omega arith) x)
unnamed_from A (found p w ∷ l) k zero x = absurd ((besides (A × (0 + k ≡ k → ⊥)) l (suc k) (0 + k) x).1 (zero-add k))
unnamed_from A (found p w ∷ l) k (suc j) x = let B = A × (suc j + k ≡ k → ⊥) in unnamed_from B l (suc k) j (subst (Unnamed B l (suc k)) (omega arith) x)

-- Such a number finds nothing.
pub unnamed : (l : List Spot) (i : ℕ) → Unnamed Unit l 0 i → get_or l i none ≡ none
unnamed l i x = unnamed_from Unit l 0 i (subst (Unnamed Unit l 0) (sym (add-zero i)) x)

-- ---- fields that have numbers of their own, which name them in every kind of message

-- the spots of the fields is
unfoldable pub picks : List Spot → List ℕ → List Spot
picks l [] = []
picks l (i ∷ is) = get_or l i none ∷ picks l is

-- a number that names no field is that of field 0, which may not be corrected
pick_at : (l : List Spot) (is : List ℕ) (n : ℕ) → get_or l 0 none ≡ none → get_or (picks l is) n none ≡ get_or l (get_or is n 0) none
unfolding picks
pick_at l [] n e = sym e
pick_at l (i ∷ is) zero e = refl
pick_at l (i ∷ is) (suc n) e = pick_at l is n e

-- The numbers below k name the fields `is` of every message, and those from `first` on the fields `is'` of one kind of message.
module _ (l : List Spot) (k first : ℕ) (is is' : List ℕ) (blank : get_or l 0 none ≡ none) where
  pub common_at : (n m : ℕ) → n ≡ m → ltb m k ≡ true → get_or l (entry_of k is first is' n) none ≡ get_or (picks l is) m none
  common_at n m e below = rw (e, below) (sym (pick_at l is m blank))

  -- a number that names none of every message's is one of the kind's own, or names nothing
  pub not_common : (n : ℕ) → k ≤ first → Unnamed Unit (picks l is) 0 n → get_or l (entry_of k is first is' n) none ≡ get_or l (entry_from first is' n) none
  not_common n h x = go (ltb n k) refl
    where
      go : (b : Bool) → ltb n k ≡ b → get_or l (cond b (get_or is n 0) (entry_from first is' n)) none ≡ get_or l (entry_from first is' n) none
      go true e = sym (pick_at l is n blank) ∙ unnamed (picks l is) n x ∙ rw (lt-ltb n first (omega (arith, ltb-true n k e, h))) (sym blank)
      go false e = refl

  -- such a one that names none of the kind's own finds nothing
  pub not_own : (n : ℕ) → Unnamed Unit (picks l is') first n → get_or l (entry_from first is' n) none ≡ none
  not_own n x = go (ltb n first) refl
    where
      go : (b : Bool) → ltb n first ≡ b → get_or l (cond b 0 (get_or is' (n - first) 0)) none ≡ none
      go true e = blank
      go false e = sym (pick_at l is' (n - first) blank) ∙ unnamed_from Unit (picks l is') first (n - first) (subst (Unnamed Unit (picks l is') first) (omega (arith, ltb-false n first e)) x)
