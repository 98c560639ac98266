-- A walk over a counted group is a stretch of reading, once for every layout. Assumes nothing.
use Rattle.std.specs.Prelude.{◌≡◌, ℕ, zero, suc, ◌+◌, ◌*◌, ◌^◌, ◌<◌, ◌≤◌, Bool, true, false, cond, List, [], ◌∷◌, ◌++◌, ◌==◌, refl}
use Rattle.std.proofs.Common.{sym, ap, ap₂, ◌∙◌, subst, append_assoc, arith, add_assoc, mul-le-mul_right}
use Rattle.std.proofs.lemmas.Bool.{eqb-false}
use Rattle.bits.specs.Answers.{got}
use Rattle.format.specs.Fmt.{Judge, Fmt, field}
use Rattle.format.specs.Words.{◌‥◌, free, num, deciding}
use Rattle.walk.specs.Reading.{ranged, group_read}
use Rattle.walk.specs.Laws.Along.{Along, go, stay, then, under, dropped, along_num, along_decide, ranged_v, ranged_at}
use Rattle.walk.specs.Laws.Parts.{group_v, group_at, step_group}
use Rattle.walk.specs.Laws.Pieces.{Matches}
use Rattle.walk.specs.Laws.Reading.{got_lt}
use Rattle.walk.specs.Pieces.{Pieces}
use Rattle.walk.specs.Walk.{Walk}
use Rattle.format.specs.Groups.{repeat, counted}
use Rattle.walk.specs.Groups.{Step, single, then_step, unless_refused, repeat_walked, decided_walked, counted_walked, Standing, Width, then_at, then_wide, repeat_at, repeat_wide, decided_at, decided_wide}

-- the values told in another way
pub valued : {s : List ℕ} {g g' : Fmt → Fmt} {r r' : Walk} {vs ws : List ℕ} → vs ≡ ws → Along s g g' r vs r' → Along s g g' r ws r'
valued {s} {g} {g'} {r} {r'} e a = subst (λ l. Along s g g' r l r') e a

-- The step walks the item: with what follows it a stretch over g, wherever the item ends, it is a stretch over the item and g. It has at most `most` bits.
pub record Stretch (s : List ℕ) (item : Fmt → Fmt) (values : Standing) (wide : Width) (most : ℕ) (step : Step) : Type 0 where
  pub small : (at : ℕ) → wide at ≤ most
  pub on : {g : Fmt → Fmt} {vs : List ℕ} (next : Walk → Walk) (r : Walk) → r.at + most < 2 ^ 64
      → ((w : Walk) → w.at ≡ r.at + wide r.at → Along s g (λ f. f) w vs (next w)) → Along s (λ f. item (g f)) (λ f. f) r (values r.at ++ vs) (step next r)

-- nothing
pub nowhere : {s : List ℕ} → Stretch s (λ f. f) (λ at. []) (λ at. 0) 0 (λ next r. next r)
nowhere = record { small = λ at. omega arith; on = λ next r reach rest. rest r (omega arith) }

-- one field
pub one_field : {s : List ℕ} {item : Fmt → Fmt} (w : ℕ) (q : Walk → Walk)
    → ((r : Walk) → r.at + w < 2 ^ 64 → ((q r).at ≡ r.at + w) × Along s item (λ f. f) r (got s r.at w ∷ []) (q r))
    → Stretch s item (λ at. got s at w ∷ []) (λ at. w) w (single q)
one_field w q h = record { small = λ at. omega arith; on = λ {g} {vs} next r reach rest. let (at, a) = h r reach in then (under g a) (rest (q r) at) }

pub number : (s : List ℕ) (w : ℕ) (some : 0 < w) (narrow : w ≤ 32) (lo hi : ℕ) → Stretch s (num w (lo ‥ hi)) (λ at. got s at w ∷ []) (λ at. w) w (single (ranged s w true lo hi 4))
number s w some narrow lo hi = one_field w (ranged s w true lo hi 4) (λ r reach.
    let v : (ranged s w true lo hi 4 r).v ≡ got s r.at w = ranged_v s r w true lo hi 4 refl in
    (ranged_at s r w true lo hi 4 refl reach, valued (ap (λ v. v ∷ []) v) (along_num w some narrow reach lo hi refl)))

-- a field made of parts
pub parted : (s : List ℕ) (w : ℕ) {j : Judge} {J : Pieces → Pieces} → 0 < w → w ≤ 32 → ((h : List ℕ) → Matches (j h) w J) → Stretch s (field w j free) (λ at. got s at w ∷ []) (λ at. w) w (single (group_read s w J))
parted s w {j} {J} some narrow x = one_field w (group_read s w J) (λ r reach.
    let q = group_read s w J r in
    (group_at s r w J reach refl, valued (ap (λ v. v ∷ []) (group_v s r w J refl)) (record { on = λ {o} {all} {i} {f} {us} y. go us q.v y (λ h e. step_group w some narrow reach (x h) e refl) })))

-- a refusal ends it
pub guard : {s : List ℕ} → Stretch s (λ f. f) (λ at. []) (λ at. 0) 0 unless_refused
guard {s} = record { small = λ at. omega arith; on = λ {g} {vs} next r reach rest. go g vs next r (rest r (omega arith)) (r.code == 0) refl }
  where
    go : (g : Fmt → Fmt) (vs : List ℕ) (next : Walk → Walk) (r : Walk) → Along s g (λ f. f) r vs (next r) → (t : Bool) → (r.code == 0) ≡ t → Along s g (λ f. f) r vs (cond t (next r) r)
    go g vs next r a true t = a
    go g vs next r a false t = dropped (λ f. f) vs (eqb-false r.code 0 t) stay

-- one behind the other
pub follows : {s : List ℕ} {a b : Fmt → Fmt} {va vb : Standing} {wa wb : Width} {na nb : ℕ} {sa sb : Step} → Stretch s a va wa na sa → Stretch s b vb wb nb sb
    → Stretch s (λ f. a (b f)) (then_at va wa vb) (then_wide wa wb) (na + nb) (then_step sa sb)
follows {va = va} {vb} {wa} {wb} {na} {nb} {sa} {sb} x y = record {
  small = λ at. omega (arith, x.small at, y.small (at + wa at));
  on = λ {g} {vs} next r reach rest.
      let k = x.small r.at in
      valued (sym (append_assoc (va r.at) (vb (r.at + wa r.at)) vs))
      (x.on (sb next) r (omega arith) (λ w e.
      valued (ap (λ at. vb at ++ vs) e)
      (y.on next w (omega (arith, e, k)) (λ u d. rest u (d ∙ ap (λ at. at + wb at) e ∙ add_assoc r.at (wa r.at) (wb (r.at + wa r.at)))))));
}

-- what a number decides
pub decides : (s : List ℕ) (w : ℕ) (some : 0 < w) (narrow : w ≤ 32) (lo hi : ℕ) {a : ℕ → Fmt → Fmt} {va : ℕ → Standing} {wa : ℕ → Width} {sa : ℕ → Step} (most : ℕ)
    → ((v : ℕ) → v < 2 ^ w → Stretch s (a v) (va v) (wa v) most (sa v))
    → Stretch s (λ f. deciding w (lo ‥ hi) λ v. a v f) (decided_at s w va) (decided_wide s w wa) (w + most) (decided_walked s w lo hi sa)
decides s w some narrow lo hi {a} {va} {wa} {sa} most x = record {
  small = λ at. omega (arith, (x (got s at w) (got_lt s at w refl)).small (at + w));
  on = λ {g} {vs} next r reach rest.
      let q = ranged s w false lo hi 4 r in
      let v : q.v ≡ got s r.at w = ranged_v s r w false lo hi 4 refl in
      let at : q.at ≡ r.at + w = ranged_at s r w false lo hi 4 refl (omega arith) in
      valued (ap₂ (λ v at. v ∷ (va v at ++ vs)) v at)
      (then (under g (along_decide w some narrow (omega arith) lo hi a refl))
      ((x q.v (subst (λ v. v < 2 ^ w) (sym v) (got_lt s r.at w refl))).on next q (omega (arith, at)) (λ u e. rest u (e ∙ ap₂ (λ v at. at + wa v at) v at ∙ add_assoc r.at w _))));
}

-- repeated
pub repeats : {s : List ℕ} {item : Fmt → Fmt} {values : Standing} {wide : Width} {most : ℕ} {step : Step} → Stretch s item values wide most step
    → (n : ℕ) → Stretch s (repeat n item) (repeat_at n values wide) (repeat_wide n wide) (n * most) (repeat_walked n step)
unfolding repeat repeat_at repeat_wide repeat_walked
repeats x zero = record { small = λ at. omega arith; on = λ next r reach rest. rest r (omega arith) }
repeats {s} {item} {values} {wide} {most} {step} x (suc n) =
    let y = follows x (repeats x n) in
    record { small = λ at. omega (arith, y.small at); on = λ {g} {vs} next r reach rest. y.on next r (omega arith) rest }

-- at most as many as
pub at_most : {s : List ℕ} {item : Fmt → Fmt} {values : Standing} {wide : Width} {most : ℕ} {step : Step} (n : ℕ) → most ≤ n → Stretch s item values wide most step → Stretch s item values wide n step
at_most n l x = record { small = λ at. omega (arith, x.small at); on = λ next r reach rest. x.on next r (omega arith) rest }

-- items of one size
pub even_wide : (w n at : ℕ) → repeat_wide n (λ a. w) at ≡ n * w
unfolding repeat_wide
even_wide w zero at = omega arith
even_wide w (suc n) at = omega (arith, even_wide w n (at + w))

pub evenly : {s : List ℕ} {item : Fmt → Fmt} {values : Standing} {w : ℕ} {step : Step} → Stretch s item values (λ at. w) w step
    → (n : ℕ) → Stretch s (repeat n item) (repeat_at n values (λ at. w)) (λ at. n * w) (n * w) (repeat_walked n step)
evenly {s} {item} {values} {w} {step} x n = subst (λ (wide : Width). Stretch s (repeat n item) (repeat_at n values (λ at. w)) wide (n * w) (repeat_walked n step)) (λ i at. even_wide w n at i) (repeats x n)

-- counted: no more than w bits tell
pub counts_evenly : (s : List ℕ) (w most : ℕ) (some : 0 < w) (narrow : w ≤ 32) (lo hi : ℕ) → 2 ^ w ≡ suc most → {item : Fmt → Fmt} {values : Standing} {b : ℕ} {step : Step} → Stretch s item values (λ at. b) b step
    → Stretch s (counted w (lo ‥ hi) item) (decided_at s w (λ n. repeat_at n values (λ at. b))) (decided_wide s w (λ n at. n * b)) (w + most * b) (counted_walked s w lo hi step)
counts_evenly s w most some narrow lo hi e {b = b} x = decides s w some narrow lo hi (most * b) (λ v l. at_most (most * b) (mul-le-mul_right b (omega (arith, e))) (evenly x v))

-- ---- a turn of a loop

pub walk_turn : (step : Step) (next : Walk → Walk) (n : ℕ) {m : ℕ} (r : Walk) → m ≡ suc n → repeat_walked m step next r ≡ step (repeat_walked n step next) r
unfolding repeat_walked
walk_turn step next n r e = ap (λ m. repeat_walked m step next r) e
