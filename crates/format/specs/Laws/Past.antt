-- What of a layout stands past its first values: past some, the rest is a layout of its own, and what holds of the whole holds of it; and lists with as many values as a layout has fields. Assumes nothing.
use Rattle.std.specs.Prelude.{◌≡◌, List, [], ◌∷◌, ◌++◌, ℕ, zero, suc, ◌+◌, ◌-◌, ◌≤◌, length, set}
use Rattle.std.proofs.Common.{sym, ap, ◌∙◌, subst, arith}
use Rattle.format.specs.Fmt.{Fmt, end, field, choice, bytes, found, spot}
use Rattle.format.specs.Laws.Correct.{later_inv, none_clash}
use Rattle.format.specs.Laws.Legal.{Legal}
use Rattle.format.specs.Laws.Zero.{Counted}

-- past the values us of f, none of them a count of bytes, stands g
abbrev pub Past : Fmt → List ℕ → Fmt → Type 0
Past f [] g = f ≡ g
Past end (v ∷ us) g = ⊥
Past (field w j m f) (v ∷ us) g = Past f us g
Past (choice w j f) (v ∷ us) g = Past (f v) us g
Past (bytes f) (v ∷ us) g = ⊥

-- as many values as fields
abbrev pub Filled : Fmt → List ℕ → Type 0
Filled end [] = Unit
Filled end (v ∷ vs) = ⊥
Filled (field w j m f) [] = ⊥
Filled (field w j m f) (v ∷ vs) = Filled f vs
Filled (choice w j f) [] = ⊥
Filled (choice w j f) (v ∷ vs) = Filled (f v) vs
Filled (bytes f) [] = ⊥
Filled (bytes f) (v ∷ vs) = Filled (f v) vs

-- ---- past the first values

-- one stretch behind another
pub past_then : (f g k : Fmt) (us vs : List ℕ) → Past f us g → Past g vs k → Past f (us ++ vs) k
past_then f g k [] vs e x = subst (λ f. Past f vs k) (sym e) x
past_then end g k (v ∷ us) vs e x = absurd e
past_then (field w j m f) g k (v ∷ us) vs e x = past_then f g k us vs e x
past_then (choice w j f) g k (v ∷ us) vs e x = past_then (f v) g k us vs e x
past_then (bytes f) g k (v ∷ us) vs e x = absurd e

-- accepted values behind us are those of g
pub past_legal : (f g : Fmt) (h us vs : List ℕ) → Past f us g → Legal f h (us ++ vs) → (h' : List ℕ) × Legal g h' vs
past_legal f g h [] vs e x = (h, subst (λ f. Legal f h vs) e x)
past_legal end g h (v ∷ us) vs e x = absurd e
past_legal (field w j m f) g h (v ∷ us) vs e x = past_legal f g (v ∷ h) us vs e x.2
past_legal (choice w j f) g h (v ∷ us) vs e x = past_legal (f v) g (v ∷ h) us vs e x.2
past_legal (bytes f) g h (v ∷ us) vs e x = absurd e

pub past_filled : (f g : Fmt) (us vs : List ℕ) → Past f us g → Filled g vs → Filled f (us ++ vs)
past_filled f g [] vs e x = subst (λ f. Filled f vs) (sym e) x
past_filled end g (v ∷ us) vs e x = absurd e
past_filled (field w j m f) g (v ∷ us) vs e x = past_filled f g us vs e x
past_filled (choice w j f) g (v ∷ us) vs e x = past_filled (f v) g us vs e x
past_filled (bytes f) g (v ∷ us) vs e x = absurd e

pub past_counted : (f g : Fmt) (at : ℕ) (us vs : List ℕ) → Past f us g → ((at : ℕ) → Counted g at vs) → Counted f at (us ++ vs)
past_counted f g at [] vs e x = subst (λ f. Counted f at vs) (sym e) (x at)
past_counted end g at (v ∷ us) vs e x = absurd e
past_counted (field w j m f) g at (v ∷ us) vs e x = past_counted f g (at + w) us vs e x
past_counted (choice w j f) g at (v ∷ us) vs e x = past_counted (f v) g (at + w) us vs e x
past_counted (bytes f) g at (v ∷ us) vs e x = absurd e

-- field k of g, behind some values, may be corrected, in w bits
abbrev pub Found : Fmt → List ℕ → ℕ → ℕ → Type 0
Found g vs k w = (h : List ℕ) × (p : ℕ) × (spot g h vs k ≡ found p w)

-- a field behind us that may be corrected is one of g
pub past_found : (f g : Fmt) (h us vs : List ℕ) (i : ℕ) {p w : ℕ} → Past f us g → length us ≤ i → spot f h (us ++ vs) i ≡ found p w → Found g vs (i - length us) w
unfolding spot
past_found f g h [] vs i {p} {w} e l s = let z : i ≡ i - 0 = omega arith in subst (λ k. Found g vs k w) z (h, p, ap (λ f. spot f h vs i) (sym e) ∙ s)
past_found end g h (v ∷ us) vs i e l s = absurd e
past_found (field x j m f) g h (v ∷ us) vs zero e l s = absurd (omega arith)
past_found (field x j m f) g h (v ∷ us) vs (suc i) {p} {w} e l s =
    let z : i - length us ≡ suc i - suc (length us) = omega arith in
    subst (λ k. Found g vs k w) z (past_found f g (v ∷ h) us vs i e (omega arith) (later_inv x (spot f (v ∷ h) (us ++ vs) i) s).1)
past_found (choice x j f) g h (v ∷ us) vs zero e l s = absurd (omega arith)
past_found (choice x j f) g h (v ∷ us) vs (suc i) {p} {w} e l s =
    let z : i - length us ≡ suc i - suc (length us) = omega arith in
    subst (λ k. Found g vs k w) z (past_found (f v) g (v ∷ h) us vs i e (omega arith) (later_inv x (spot (f v) (v ∷ h) (us ++ vs) i) s).1)
past_found (bytes f) g h (v ∷ us) vs i e l s = absurd e

-- ---- as many values as fields

pub legal_filled : (f : Fmt) (h vs : List ℕ) → Legal f h vs → Filled f vs
legal_filled end h [] x = tt
legal_filled end h (v ∷ vs) x = absurd x
legal_filled (field w j m f) h [] x = absurd x
legal_filled (field w j m f) h (v ∷ vs) x = legal_filled f (v ∷ h) vs x.2
legal_filled (choice w j f) h [] x = absurd x
legal_filled (choice w j f) h (v ∷ vs) x = legal_filled (f v) (v ∷ h) vs x.2
legal_filled (bytes f) h [] x = absurd x
legal_filled (bytes f) h (v ∷ vs) x = legal_filled (f v) (v ∷ h) vs x

-- a correction changes no value that decides, and so not how many there are
pub filled_set : (f : Fmt) (h vs : List ℕ) (i v : ℕ) {p w : ℕ} → Filled f vs → spot f h vs i ≡ found p w → Filled f (set vs i v)
unfolding spot
filled_set f h [] i v x s = none_clash s
filled_set end h (u ∷ us) i v x s = absurd x
filled_set (field w j m f) h (u ∷ us) zero v x s = x
filled_set (field w j m f) h (u ∷ us) (suc i) v x s = filled_set f (u ∷ h) us i v x (later_inv w (spot f (u ∷ h) us i) s).1
filled_set (choice w j f) h (u ∷ us) zero v x s = none_clash s
filled_set (choice w j f) h (u ∷ us) (suc i) v x s = filled_set (f u) (u ∷ h) us i v x (later_inv w (spot (f u) (u ∷ h) us i) s).1
filled_set (bytes f) h (u ∷ us) zero v x s = none_clash s
filled_set (bytes f) h (u ∷ us) (suc i) v x s = filled_set (f u) (u ∷ h) us i v x s
