-- Judging and putting over a part of a layout, as values that can be joined: so a loop over counted fields has an invariant. Assumes nothing.
use Rattle.std.specs.Prelude.{◌≡◌, ℕ, ◌+◌, ◌^◌, ◌≤◌, Bool, true, false, List, [], ◌++◌, ◌==◌, ◌≢◌, refl}
use Rattle.std.proofs.Common.{subst, append_assoc, eqb-true}
use Rattle.std.proofs.Math.Path.{subst⁻¹}
use Rattle.std.proofs.Math.Nat.{mod-le}
use Rattle.std.proofs.lemmas.Bool.{eqb-false}
use Rattle.format.specs.Fmt.{Out, Fmt}
use Rattle.walk.specs.Walk.{onward}
use Rattle.walk.specs.Laws.Judging.{Judging, judge_refused}
use Rattle.format.specs.Laws.Putting.{Putting}
use Rattle.walk.specs.Walk.{Walk}

-- ---- judging

-- Judging stands at f with the values vs to come, whatever came before.
pub record Going (o : Out (List Bool)) (f : Fmt) (vs : List ℕ) (r : Walk) : Type 0 where
  pub before : List ℕ
  pub is : Judging o f before r.at vs r

pub going : {o : Out (List Bool)} {f : Fmt} {h : List ℕ} {at : ℕ} {vs : List ℕ} {r : Walk} → Judging o f h at vs r → Going o f vs r
going {o} {f} {h} {at} {vs} {r} e = go (r.code == 0) refl
  where
    go : (t : Bool) → (r.code == 0) ≡ t → Going o f vs r
    go true t = record { before = h; is = subst⁻¹ (λ a. Judging o f h a vs r) (e.here (eqb-true r.code 0 t)) e }
    go false t = record { before = h; is = judge_refused h r.at vs (eqb-false r.code 0 t) e }

-- Where judging stands at g with the values us first, it stands at g' behind them, whatever layout f and values follow.
pub record JudgesAlong (g g' : Fmt → Fmt) (r : Walk) (us : List ℕ) (r' : Walk) : Type 0 where
  pub on : {o : Out (List Bool)} {f : Fmt} {vs : List ℕ} → Going o (g f) (us ++ vs) r → Going o (g' f) vs r'

pub judges_stay : {g : Fmt → Fmt} {r : Walk} → JudgesAlong g g r [] r
judges_stay = record { on = λ x. x }

-- past a refusal
pub judges_refused : {g g' : Fmt → Fmt} {r : Walk} {us : List ℕ} → (r.code ≢ 0) → JudgesAlong g g' r us r
judges_refused {g} {g'} {r} {us} n = record { on = λ {o} {f} {vs} x. record { before = []; is = judge_refused [] r.at vs n x.is } }

module _ {g g' : Fmt → Fmt} {r : Walk} {us : List ℕ} {r' : Walk} where
  pub judges_then : {g'' : Fmt → Fmt} {ws : List ℕ} {r'' : Walk} → JudgesAlong g g' r us r' → JudgesAlong g' g'' r' ws r'' → JudgesAlong g g'' r (us ++ ws) r''
  judges_then {ws = ws} a c = record { on = λ {o} {f} {vs} x. c.on (a.on (subst (λ l. Going o (g f) l r) (append_assoc us ws vs) x)) }

  pub judges_under : (k : Fmt → Fmt) → JudgesAlong g g' r us r' → JudgesAlong (λ f. g (k f)) (λ f. g' (k f)) r us r'
  judges_under k a = record { on = λ x. a.on x }

-- a step goes no further than its bits: so a loop bounds the offset that it comes to
pub step_near : {q : Walk} (r : Walk) (w : ℕ) (b : Bool) (u c i : ℕ) → q ≡ onward w b u c i r → q.at ≤ r.at + w
unfolding onward
step_near r w b u c i d = subst⁻¹ (λ (q : Walk). q.at ≤ r.at + w) d (mod-le (r.at + w) (2 ^ 64))

-- ---- putting

-- Where t is put up to g with the values us to come first, t' is put up to g' behind them, whatever layout f and values follow.
pub record PutsAlong (g g' : Fmt → Fmt) (at : ℕ) (us t : List ℕ) (at' : ℕ) (t' : List ℕ) : Type 0 where
  pub on : {s : List ℕ} {b : List Bool} {f : Fmt} {vs : List ℕ} → Putting s b (g f) at (us ++ vs) t → Putting s b (g' f) at' vs t'

pub puts_stay : {g : Fmt → Fmt} {at : ℕ} {t : List ℕ} → PutsAlong g g at [] t at t
puts_stay = record { on = λ x. x }

module _ {g g' : Fmt → Fmt} {at : ℕ} {us t : List ℕ} {at' : ℕ} {t' : List ℕ} where
  pub puts_then : {g'' : Fmt → Fmt} {ws : List ℕ} {at'' : ℕ} {t'' : List ℕ} → PutsAlong g g' at us t at' t' → PutsAlong g' g'' at' ws t' at'' t'' → PutsAlong g g'' at (us ++ ws) t at'' t''
  puts_then {ws = ws} a c = record { on = λ {s} {b} {f} {vs} x. c.on (a.on (subst (λ l. Putting s b (g f) at l t) (append_assoc us ws vs) x)) }
