-- A text at the front of a buffer, from the stores that made it. Assumes nothing.
use Rattle.std.specs.Prelude.{◌≡◌, ℕ, ◌+◌, ◌<◌, ◌≤◌, Bool, true, false, cond, List, [], ◌++◌, length, drop, ◌==◌, ◌≢◌, nat_le, refl}
use Rattle.std.proofs.Common.{sym, ap, ◌∙◌, arith, le-leb, leb-true, leb-false, eqb-true, length-append}
use Rattle.std.proofs.lemmas.Bool.{lt-leb, eqb-false}
use Rattle.std.proofs.lemmas.List.Edits.{sets-eq}
use Rattle.daylog.specs.Laws.Text.{sets_append}
use Rattle.daylog.specs.Stores.{placed, Stores, Made}
use Rattle.daylog.specs.Promises.{Lays}

pub none : (out : List ℕ) → Made out [] 0 out
none out = record { count = refl; leaves = refl }

pub stored : {out t : List ℕ} {made : ℕ} {left : List ℕ} → length t ≤ length out → Stores out 0 t made left → Made out t made left
stored {out} {t} h s =
    let z : 0 + length t ≡ length t = omega arith in
    record { count = omega arith; leaves = s.leaves ∙ sets-eq t out 0 (omega arith) ∙ ap (λ k. t ++ drop k out) z }

-- where there is no room, nothing is stored
pub nowhere : (out : List ℕ) (at : ℕ) (t : List ℕ) → nat_le (at + length t) (length out) ≡ false → Stores out at (placed out at t) at out
nowhere out at t e = rw e (record { ends = omega arith; leaves = refl })

-- where there is, the text is
pub placed_all : (out : List ℕ) (at : ℕ) (t : List ℕ) → at + length t ≤ length out → placed out at t ≡ t
placed_all out at t h = rw (le-leb (at + length t) (length out) h)

-- a text that is not empty was stored where the offset moved, and else had no room
pub went : {out left : List ℕ} (t : List ℕ) {at end : ℕ} → Stores out at (placed out at t) end left → (end ≢ at) → at + length t ≤ length out
went {out} {left} t {at} {end} s h = go (nat_le (at + length t) (length out)) refl
  where
    go : (b : Bool) → nat_le (at + length t) (length out) ≡ b → at + length t ≤ length out
    go true e = leb-true (at + length t) (length out) e
    go false e = absurd (h (s.ends ∙ rw e (omega arith)))

pub stayed : {out left : List ℕ} (t : List ℕ) {at end : ℕ} → Stores out at (placed out at t) end left → end ≡ at → 1 ≤ length t → (length out < at + length t) × (left ≡ out)
stayed {out} {left} t {at} {end} s h some = go (nat_le (at + length t) (length out)) refl
  where
    go : (b : Bool) → nat_le (at + length t) (length out) ≡ b → (length out < at + length t) × (left ≡ out)
    go true e = let z : end ≡ at + length t = s.ends ∙ rw e in absurd (omega arith)
    go false e = (leb-false (at + length t) (length out) e, s.leaves ∙ rw e)

-- a text that is not empty, laid at the front: how many bytes it made says whether it had room
pub laid : {out left : List ℕ} (t : List ℕ) {end code : ℕ} → Stores out 0 (placed out 0 t) end left → code ≡ cond (end == 0) 6 0 → 1 ≤ length t
    → Lays out t (record { code = code; bytes = end }) left
laid {out} {left} t {end} {code} s c some = go (end == 0) refl
  where
    go : (b : Bool) → (end == 0) ≡ b → Lays out t (record { code = code; bytes = end }) left
    go true e =
        let z : end ≡ 0 = eqb-true end 0 e in
        let p = stayed t s z some in
        let l : length out < length t = omega (arith, p.0) in
        record { code = c ∙ rw (e, lt-leb (length t) (length out) l); text = rw (lt-leb (length t) (length out) l) (record { count = z; leaves = p.1 }) }
    go false e =
        let h = went t s (eqb-false end 0 e) in
        let l : length t ≤ length out = omega (arith, h) in
        record { code = c ∙ rw (e, le-leb (length t) (length out) l); text = rw (le-leb (length t) (length out) l) (stored l (rw (placed_all out 0 t h) at s)) }

-- one text after the other
pub then : {out mid left t u : List ℕ} {at at' end : ℕ} → Stores out at t at' mid → Stores mid at' u end left → Stores out at (t ++ u) end left
then {out} {mid} {left} {t} {u} {at} {at'} x y = record {
  ends = omega (arith, length-append t u);
  leaves = y.leaves ∙ rw (x.leaves, x.ends, sets_append out at t u);
}

-- one text made, one answer
pub one_text : {out t : List ℕ} {a b : ℕ} {x y : List ℕ} → Made out t a x → Made out t b y → (a ≡ b) × (x ≡ y)
one_text p q = (p.count ∙ sym q.count, p.leaves ∙ sym q.leaves)
