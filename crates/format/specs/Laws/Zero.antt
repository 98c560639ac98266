-- No call answers 0 but to say that all is well. The number 0, which writing answers to too few or too many values or to a wrong byte count, is met by no values that come from a record. Assumes nothing.
use Rattle.std.specs.Prelude.{◌≡◌, refl, Bool, true, false, ◌&&◌, List, [], ◌∷◌, ℕ, suc, ◌+◌, ◌/◌, ◌≤◌, leb, eqb, length, take, drop}
use Rattle.std.proofs.Common.{sym, ap, ◌∙◌, arith, leb-true, length-drop}
use Rattle.bits.specs.Bits.{value_of}
use Rattle.format.specs.Fmt.{Out, accepted, refused, Fault, good, bad, Judge, Fmt, end, field, choice, bytes, or_bad, pad, check, also, read_field, read}
use Rattle.format.specs.Words.{Test, Part, part, or_else, unless, or_zero, walk, only, twice}
use Rattle.format.specs.Laws.Round.{lay}

-- As many values as fields, and each byte count that of what follows.
abbrev pub Counted : Fmt → ℕ → List ℕ → Type 0
Counted end at [] = Unit
Counted end at (v ∷ vs) = ⊥
Counted (field w j m f) at [] = ⊥
Counted (field w j m f) at (v ∷ vs) = Counted f (at + w) vs
Counted (choice w j f) at [] = ⊥
Counted (choice w j f) at (v ∷ vs) = Counted (f v) (at + w) vs
Counted (bytes f) at [] = ⊥
Counted (bytes f) at (n ∷ vs) = Counted (f n) at vs × ((b : List Bool) → lay (f n) at vs ≡ accepted b → length b / 8 ≡ n)

-- A judge's refusals are numbers of the paper, and point into the bits that it is given, or to their end.
abbrev pub Numbered : Judge → Type 0
Numbered j = ((h : List ℕ) (b : List Bool) (i : ℕ) → j h b ≡ bad 0 i → ⊥) × ((h : List ℕ) (b : List Bool) (c i : ℕ) → j h b ≡ bad c i → i ≤ length b)

abbrev pub Judged : Fmt → Type 0
Judged end = Unit
Judged (field w j m f) = Numbered j × Judged f
Judged (choice w j f) = Numbered j × ((v : ℕ) → Judged (f v))
Judged (bytes f) = (n : ℕ) → Judged (f n)

-- the numbers of parts are the judge's
abbrev pub Coded : List Part → Type 0
Coded [] = Unit
Coded (part w c t ∷ ps) = (c ≡ 0 → ⊥) × Coded ps

walk_coded : (ps : List Part) (k : ℕ) → Coded ps → (h : List ℕ) (b : List Bool) (i : ℕ) → walk ps k h b ≡ bad 0 i → ⊥
unfolding walk
walk_coded [] k z h b i e = let z : ◌≡◌ {A = ℕ} 0 1 = cc in omega arith
walk_coded (part w c t ∷ ps) k z h b i e =
    go (leb w (length b)) (t h (value_of (take w b))) (walk ps (k + w) (value_of (take w b) ∷ h) (drop w b)) (λ x. walk_coded ps (k + w) z.1 _ _ i x) e
  where
    go : (x y : Bool) (r : Fault) → (r ≡ bad 0 i → ⊥) → or_else (unless x 1 k) (or_else (unless y c k) r) ≡ bad 0 i → ⊥
    go false y r n e = let z : ◌≡◌ {A = ℕ} 1 0 = cc in omega arith
    go true false r n e = z.0 cc
    go true true r n e = n e

-- a part that is bad or cut begins in the bits, or where they end
walk_points : (ps : List Part) (k : ℕ) (h : List ℕ) (b : List Bool) (c i : ℕ) → walk ps k h b ≡ bad c i → i ≤ k + length b
unfolding walk
walk_points [] k h b c i e = let z : ◌≡◌ {A = ℕ} 0 1 = cc in absurd (omega arith)
walk_points (part w d t ∷ ps) k h b c i e =
    go (leb w (length b)) refl (t h (value_of (take w b))) (walk ps (k + w) (value_of (take w b) ∷ h) (drop w b)) (λ x. walk_points ps (k + w) _ _ c i x) e
  where
    go : (x : Bool) → leb w (length b) ≡ x → (y : Bool) (r : Fault) → (r ≡ bad c i → i ≤ k + w + length (drop w b)) → or_else (unless x 1 k) (or_else (unless y d k) r) ≡ bad c i → i ≤ k + length b
    go false ex y r n e = let z : k ≡ i = cc in omega arith
    go true ex false r n e = let z : k ≡ i = cc in omega arith
    go true ex true r n e = omega (arith, n e, leb-true w (length b) ex, length-drop w b)

pub walk_numbered : (ps : List Part) → Coded ps → Numbered (walk ps 0)
walk_numbered ps z = (walk_coded ps 0 z, λ h b c i e. omega (arith, walk_points ps 0 h b c i e))

pub only_numbered : (w c : ℕ) (t : Test) → Numbered (only w (suc c) t)
only_numbered w c t = walk_numbered (part w (suc c) t ∷ []) ((λ z. omega arith), tt)

pub twice_numbered : (w c d : ℕ) (t u : Test) → Numbered (twice w (suc c) t (suc d) u)
twice_numbered w c d t u = (
  λ h b i. go (λ f. f ≡ bad 0 i → ⊥) (only w (suc c) t h b) (only w (suc d) u h b) ((only_numbered w c t).0 h b i) ((only_numbered w d u).0 h b i),
  λ h b n i. go (λ f. f ≡ bad n i → i ≤ length b) (only w (suc c) t h b) (only w (suc d) u h b) ((only_numbered w c t).1 h b n i) ((only_numbered w d u).1 h b n i),
)
  where
    go : (P : Fault → Type 0) (x y : Fault) → P x → P y → P (or_else x y)
    go P good y m n = n
    go P (bad c i) y m n = m

pub zero_numbered : (w : ℕ) (j : Judge) → Numbered j → Numbered (or_zero w j)
unfolding or_zero
zero_numbered w j n = (λ h b i e. n.0 h b i (as_judged h b 0 i e), λ h b c i e. n.1 h b c i (as_judged h b c i e))
  where
    as_judged : (h : List ℕ) (b : List Bool) (c i : ℕ) → or_zero w j h b ≡ bad c i → j h b ≡ bad c i
    as_judged h b c i e = go (eqb (length b) w && eqb (value_of b) 0) refl
      where
        go : (x : Bool) → (eqb (length b) w && eqb (value_of b) 0) ≡ x → j h b ≡ bad c i
        go true ex = let y : or_zero w j h b ≡ good = rw ex refl in let z : ◌≡◌ {A = ℕ} 0 1 = cc in absurd (omega arith)
        go false ex = let y : or_zero w j h b ≡ j h b = rw ex refl in sym y ∙ e

-- ---- reading and correcting

read_zero_field : (w : ℕ) (j : Judge) (h : List ℕ) (at : ℕ) (b : List Bool) (next : ℕ → List Bool → Out (List ℕ)) (p : ℕ) → Numbered j
    → ((v : ℕ) (r : List Bool) → next v r ≡ refused 0 p → ⊥) → read_field w j h at b next ≡ refused 0 p → ⊥
unfolding read_field
read_zero_field w j h at b next p n k e = go (j h (take w b)) (leb w (length b)) (next (value_of (take w b)) (drop w b)) (n.0 h (take w b)) (k (value_of (take w b)) (drop w b)) e
  where
    go : (x : Fault) (t : Bool) (o : Out (List ℕ)) → ((i : ℕ) → x ≡ bad 0 i → ⊥) → (o ≡ refused 0 p → ⊥)
        → check x at (check (or_bad t 1) at (also (value_of (take w b) ∷◌) o)) ≡ refused 0 p → ⊥
    go (bad c i) t o n k e = let z : c ≡ 0 = cc in n i (ap (λ c. bad c i) z)
    go good false o n k e = let z : ◌≡◌ {A = ℕ} 1 0 = cc in omega arith
    go good true (accepted vs) n k e = let z : ◌≡◌ {A = ℕ} 0 1 = cc in omega arith
    go good true (refused c q) n k e = k e

pub read_zero : (f : Fmt) (h : List ℕ) (at : ℕ) (b : List Bool) (p : ℕ) → Judged f → read f h at b ≡ refused 0 p → ⊥
unfolding read
read_zero end h at b p j e = go (eqb (value_of (take (pad at) b)) 0) (eqb (length b) (pad at)) e
  where
    go : (x y : Bool) → ◌≡◌ {A = Out (List ℕ)} (check (or_bad x 5) at (check (or_bad y 1) (at + pad at) (accepted []))) (refused 0 p) → ⊥
    go false y e = let z : ◌≡◌ {A = ℕ} 5 0 = cc in omega arith
    go true false e = let z : ◌≡◌ {A = ℕ} 1 0 = cc in omega arith
    go true true e = let z : ◌≡◌ {A = ℕ} 0 1 = cc in omega arith
read_zero (field w k m f) h at b p j e = read_zero_field w k h at b _ p j.0 (λ v r x. read_zero f (v ∷ h) (at + w) r p j.1 x) e
read_zero (choice w k f) h at b p j e = read_zero_field w k h at b _ p j.0 (λ v r x. read_zero (f v) (v ∷ h) (at + w) r p (j.1 v) x) e
read_zero (bytes f) h at b p j e = go (read (f (length b / 8)) (length b / 8 ∷ h) at b) (λ x. read_zero (f (length b / 8)) (length b / 8 ∷ h) at b p (j (length b / 8)) x) e
  where
    go : (o : Out (List ℕ)) → (o ≡ refused 0 p → ⊥) → also (length b / 8 ∷◌) o ≡ refused 0 p → ⊥
    go (accepted vs) k e = let z : ◌≡◌ {A = ℕ} 0 1 = cc in omega arith
    go (refused c q) k e = k e
