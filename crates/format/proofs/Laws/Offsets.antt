-- Where the values of an accepted message stand: the n-th is the number that its bits spell, behind the fields before it. Assumes nothing.
use Rattle.std.specs.Prelude.{◌≡◌, Bool, ℕ, zero, suc, ◌+◌, ◌/◌, eqb, length, take, drop, get_or}
use Rattle.std.proofs.Common.{sym, ap, ◌∙◌, subst, add-zero, drop-drop, get_or-drop}
use Rattle.std.proofs.Math.Path.{subst⁻¹}
use mathlib.Core.List.{List, [], ◌∷◌}
use Rattle.bits.specs.Bits.{value_of}
use Rattle.format.specs.Fmt.{Out, accepted, Judge, Fmt, end, field, choice, bytes, pad, or_bad, read_field, read}
use Rattle.format.specs.Laws.First.{opened}
use Rattle.format.specs.Laws.Round.{checked, accepted_inj, also_inv}
use Rattle.format.specs.Laws.Offsets.{behind, reach}

-- what follows is read
record Past (n : ℕ) (f : Fmt) (vs : List ℕ) (b : List Bool) (k : ℕ) : Type 0 where
  before : List ℕ
  at : ℕ
  so : read (behind n f vs) before at (drop (reach n f vs k) b) ≡ accepted (drop n vs)

past : (n : ℕ) (f : Fmt) (h : List ℕ) (at : ℕ) (vs : List ℕ) (b : List Bool) (k : ℕ) → read f h at (drop k b) ≡ accepted vs → Past n f vs b k
unfolding read
past zero f h at vs b k e = record { before = h; at = at; so = e }
past (suc n) end h at vs b k e =
    let (x, y) = checked (or_bad (eqb (value_of (take (pad at) (drop k b))) 0) 5) at _ e in
    let (z, none) = checked (or_bad (eqb (length (drop k b)) (pad at)) 1) (at + pad at) (accepted []) y in
    record { before = h; at = at; so = e ∙ ap accepted (sym (accepted_inj none) ∙ ap (drop (suc n)) (accepted_inj none)) }
past (suc n) (field w j m f) h at vs b k e =
    let v = value_of (take w (drop k b)) in
    let o = opened w j h at (drop k b) (λ v r. read f (v ∷ h) (at + w) r) vs e in
    let p = past n f (v ∷ h) (at + w) o.rest b (k + w) (ap (read f (v ∷ h) (at + w)) (sym (drop-drop w k b)) ∙ o.after) in
    subst⁻¹ (λ vs. Past (suc n) (field w j m f) vs b k) o.front (record { before = p.before; at = p.at; so = p.so })
past (suc n) (choice w j f) h at vs b k e =
    let v = value_of (take w (drop k b)) in
    let o = opened w j h at (drop k b) (λ v r. read (f v) (v ∷ h) (at + w) r) vs e in
    let p = past n (f v) (v ∷ h) (at + w) o.rest b (k + w) (ap (read (f v) (v ∷ h) (at + w)) (sym (drop-drop w k b)) ∙ o.after) in
    subst⁻¹ (λ vs. Past (suc n) (choice w j f) vs b k) o.front (record { before = p.before; at = p.at; so = p.so })
past (suc n) (bytes f) h at vs b k e =
    let v = length (drop k b) / 8 in
    let (rest, after, front) = also_inv (v ∷◌) (read (f v) (v ∷ h) at (drop k b)) e in
    let p = past n (f v) (v ∷ h) at rest b k after in
    subst (λ vs. Past (suc n) (bytes f) vs b k) front (record { before = p.before; at = p.at; so = p.so })

-- Field n of an accepted message is the number at its offset,
module _ (n : ℕ) (f : Fmt) (vs : List ℕ) (b : List Bool) (e : read f [] 0 b ≡ accepted vs) (w : ℕ) (j : Judge) where
  abbrev here : List Bool
  here = drop (reach n f vs 0) b

  first_of_lem : (h : List ℕ) (at : ℕ) (next : ℕ → List Bool → Out (List ℕ)) → read_field w j h at here next ≡ accepted (drop n vs) → get_or vs n 0 ≡ value_of (take w here)
  first_of_lem h at next is =
      let o = opened w j h at here next (drop n vs) is in
      ap (λ k. get_or vs k 0) (sym (add-zero n)) ∙ sym (get_or-drop n vs 0 0) ∙ ap (λ l. get_or l 0 0) o.front

  pub value_at : (m : List ℕ → Bool) (g : Fmt) → behind n f vs ≡ field w j m g → get_or vs n 0 ≡ value_of (take w here)
  unfolding read
  value_at m g is =
      let p = past n f [] 0 vs b 0 e in
      first_of_lem p.before p.at (λ v r. read g (v ∷ p.before) (p.at + w) r) (ap (λ k. read k p.before p.at here) (sym is) ∙ p.so)

  -- whether it decides what follows or not.
  pub choice_at : (g : ℕ → Fmt) → behind n f vs ≡ choice w j g → get_or vs n 0 ≡ value_of (take w here)
  unfolding read
  choice_at g is =
      let p = past n f [] 0 vs b 0 e in
      first_of_lem p.before p.at (λ v r. read (g v) (v ∷ p.before) (p.at + w) r) (ap (λ k. read k p.before p.at here) (sym is) ∙ p.so)
