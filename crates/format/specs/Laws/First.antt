-- What the fields of an accepted message say of its first tests: for a layout's proof that it is sound. Assumes nothing.
use Rattle.std.specs.Prelude.{◌≡◌, refl, Bool, true, false, cond, ◌&&◌, List, ◌∷◌, ℕ, ◌≤◌, leb, length, take, drop}
use Rattle.std.proofs.Common.{sym, arith, leb→le, leb-true}
use Rattle.bits.specs.Bits.{value_of}
use Rattle.format.specs.Fmt.{Out, accepted, Judge, or_bad, read_field}
use Rattle.format.specs.Message.{led, between}
use Rattle.format.specs.Laws.Round.{checked, passed, also_inv}

-- A field in front is there, and what is behind it is read.
pub record Opened (w : ℕ) (b : List Bool) (next : ℕ → List Bool → Out (List ℕ)) (vs : List ℕ) : Type 0 where
  pub rest : List ℕ
  pub front : vs ≡ value_of (take w b) ∷ rest
  pub there : w ≤ length b
  pub after : next (value_of (take w b)) (drop w b) ≡ accepted rest

pub opened : (w : ℕ) (j : Judge) (h : List ℕ) (at : ℕ) (b : List Bool) (next : ℕ → List Bool → Out (List ℕ)) (vs : List ℕ) → read_field w j h at b next ≡ accepted vs → Opened w b next vs
unfolding read_field
opened w j h at b next vs e =
    let (x, y) = checked (j h (take w b)) at _ e in
    let (t, z) = checked (or_bad (leb w (length b)) 1) at _ y in
    let (rest, after, front) = also_inv (value_of (take w b) ∷◌) (next (value_of (take w b)) (drop w b)) z in
    record { rest = rest; front = sym front; there = leb→le w (length b) (passed (leb w (length b)) 1 t); after = after }

-- first tests that pass have tested the sizes
pub led_between : (m lo hi : ℕ) (k : List ℕ → Bool) (s : List ℕ) → led m k (λ s. between lo hi (length s)) s ≡ 0 → (lo ≤ length s) × (length s ≤ hi)
led_between m lo hi k s e = go (leb m (length s)) (k s) (leb lo (length s)) (leb (length s) hi) refl refl e
  where
    go : (w x y z : Bool) → leb lo (length s) ≡ y → leb (length s) hi ≡ z → ◌≡◌ {A = ℕ} (cond w (cond x (cond (y && z) 0 1) 2) 1) 0 → (lo ≤ length s) × (length s ≤ hi)
    go true true true true ey ez e = (leb-true lo (length s) ey, leb-true (length s) hi ez)
    go true true true false ey ez e = absurd (omega (arith, e))
    go true true false z ey ez e = absurd (omega (arith, e))
    go true false y z ey ez e = absurd (omega (arith, e))
    go false x y z ey ez e = absurd (omega (arith, e))
