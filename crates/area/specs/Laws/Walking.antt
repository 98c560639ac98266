-- An angle read, told by what it spells; a shape's number judged; and a shape's refusals are numbers of the paper. Assumes nothing.
use Rattle.std.specs.Prelude.{◌≡◌, refl, Bool, false, List, ◌∷◌, ℕ, ◌+◌, ◌-◌, ◌%◌, ◌≤◌, ◌<◌, ◌^◌, ℤ}
use Rattle.std.proofs.Common.{ap, ◌∙◌, lit<, lit≤}
use Rattle.std.proofs.Math.Path.{subst⁻¹}
use Rattle.format.specs.Fmt.{Out, Fmt, choice}
use Rattle.format.specs.Words.{◌‥◌, signed, only, num}
use Rattle.format.specs.Laws.Extent.{opens_choice}
use Rattle.format.specs.Laws.Tells.{wrong_narrow}
use Rattle.format.specs.Laws.Zero.{Judged, only_numbered}
use Rattle.walk.specs.Reading.{signedly}
use Rattle.walk.specs.Sign.{int_of, spell_of}
use Rattle.walk.specs.Walk.{onward}
use Rattle.walk.specs.Laws.Judging.{Judging, judge}
use Rattle.walk.specs.Laws.Reading.{step_signed, got_lt}
use Rattle.walk.specs.Laws.Sign.{spell_int}
use Rattle.walk.specs.Laws.Step.{Reading}
use Rattle.walk.specs.Walk.{Walk}
use Rattle.area.specs.Shapes.{Kind, circle, rectangle, type_of, shape}

-- The code's number x of an angle of w bits, -m to m or none, which the walk q has passed.
pub record Angle (s : List ℕ) (w m none : ℕ) (r q : Walk) (x : ℤ) : Type 0 where
  pub walked : q ≡ signedly s w m (2 ^ w - m) none r
  pub is : x ≡ int_of (2 ^ w) q.v
  pub some : 0 < w
  pub small : w ≤ 32
  pub less : 2 ^ w ≤ 2_147_483_648
  pub even : 2 ^ w % 2 ≡ 0

module _ {s : List ℕ} {w m none : ℕ} {r q : Walk} {x : ℤ} (a : Angle s w m none r q x) where
  below : q.v < 2 ^ w
  unfolding onward
  below = rw a.walked (got_lt s r.at w refl)

  again : spell_of (2 ^ w) x ≡ q.v
  again = ap (spell_of (2 ^ w)) a.is ∙ spell_int (2 ^ w) q.v a.less a.even below

  pub angle_narrow : spell_of (2 ^ w) x < 2 ^ w
  angle_narrow = rw again below

  pub angle_read : {o : Out (List ℕ)} {all : Fmt} {i : ℕ} {h : List ℕ} {at : ℕ} {k : List ℕ → List ℕ} {f : Fmt} → at + w < 2 ^ 64 → Reading o all i s (num w (signed w m none) f) h at k r
      → Reading o all i s f (spell_of (2 ^ w) x ∷ h) (at + w) (λ vs. k (spell_of (2 ^ w) x ∷ vs)) q
  angle_read {o} {all} {i} {h} {at} {k} {f} reach e =
      subst⁻¹ (λ v. Reading o all i s f (v ∷ h) (at + w) (λ vs. k (v ∷ vs)) q) again (step_signed w a.some a.small reach m none e a.walked)

-- the shape's number, which decides what follows
pub kind_judged : {o : Out (List Bool)} {f : ℕ → Fmt} {h : List ℕ} {vs : List ℕ} {r g : Walk} (t : Kind) → Judging o (choice 2 (only 2 2 (1 ‥ 2)) f) h 92 (type_of t ∷ vs) r → g ≡ onward 2 false (type_of t) 0 0 r
    → Judging o (f (type_of t)) (type_of t ∷ h) 94 vs g
kind_judged {h = h} circle e d = judge false 1 0 0 (lit≤ tt) (lit< tt) opens_choice (wrong_narrow 2 1 (1 ‥ 2) h 1 (lit< tt)) e d
kind_judged {h = h} rectangle e d = judge false 2 0 0 (lit≤ tt) (lit< tt) opens_choice (wrong_narrow 2 1 (1 ‥ 2) h 2 (lit< tt)) e d

-- its refusals are numbers of the paper
pub shape_numbered : (t : Kind) (f : Fmt) → Judged f → Judged (shape t f)
shape_numbered circle f j = (only_numbered 28 3 _, (only_numbered 27 3 _, (only_numbered 7 3 _, (only_numbered 48 4 _, j))))
shape_numbered rectangle f j = (only_numbered 28 3 _, (only_numbered 27 3 _, (only_numbered 28 3 _, (only_numbered 27 3 _, j))))
