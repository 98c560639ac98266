-- Judging what a row of numbers tells is a stretch of judging, once for every layout: one field, one behind another, what a number decides, counted and repeated. Assumes nothing.
use Rattle.std.specs.Prelude.{◌≡◌, ℕ, zero, suc, ◌+◌, ◌*◌, ◌^◌, ◌<◌, ◌≤◌, Bool, true, false, cond, List, [], ◌∷◌, ◌++◌, get_or, drop, ◌==◌, ◌≢◌, nat_eq, slice_index_or, refl}
use Rattle.std.proofs.Common.{sym, ap, ap₂, ◌∙◌, subst, arith, add-zero, mul-le-mul_right, eqb-true}
use Rattle.std.proofs.lemmas.Bool.{eqb-false}
use Rattle.format.specs.Fmt.{Judge, Fmt, field}
use Rattle.format.specs.Groups.{repeat, counted, Measure, then_of, decided_of, repeat_of, Telling, one_told, then_told, decided_told, repeat_told}
use Rattle.format.specs.Words.{◌‥◌, free, num, deciding}
use Rattle.walk.specs.Judging.{valued}
use Rattle.walk.specs.Reading.{group_judged}
use Rattle.walk.specs.Rows.{JudgeStep, one_judged, then_judged, decided_judged, even_judged, even_step, counted_judged, repeat_judged}
use Rattle.walk.specs.Walk.{onward}
use Rattle.walk.specs.Laws.Judging.{judge_num, judge_deciding, judge_refused, valued_between}
use Rattle.walk.specs.Laws.Loops.{JudgesAlong, going, judges_stay, judges_refused, judges_then, judges_under, step_near}
use Rattle.walk.specs.Laws.Pieces.{Matches, judge_group}
use Rattle.walk.specs.Laws.Step.{clean}
use Rattle.walk.specs.Pieces.{Pieces}
use Rattle.walk.specs.Walk.{Stepped}
use Rattle.walk.specs.Walk.{Walk}
use Rattle.walk.specs.Laws.Rows.{here, fronts, after_one, long_then, long_one}

told_as : {g g' : Fmt → Fmt} {r r' : Walk} {us vs : List ℕ} → us ≡ vs → JudgesAlong g g' r us r' → JudgesAlong g g' r vs r'
told_as {g} {g'} {r} {r'} e a = subst (λ l. JudgesAlong g g' r l r') e a

-- behind a refusal it does not matter which values are told
retold : {g g' : Fmt → Fmt} {r r' : Walk} {us : List ℕ} (ws : List ℕ) → (r.code ≢ 0) → JudgesAlong g g' r us r' → JudgesAlong g g' r ws r'
retold {us = us} ws n a = record { on = λ {o} {f} {vs} x. a.on (record { before = []; is = judge_refused [] _ (us ++ vs) n x.is }) }

-- The step judges the item that the row tells from number k on. It has at most `most` bits, refuses nothing only if nothing was refused before, and then takes the item's numbers.
pub record Judges (row : List ℕ) (item : Fmt → Fmt) (tell : Telling) (long : Measure) (most : ℕ) (step : JudgeStep) : Type 0 where
  pub along : (k : ℕ) (r : Walk) → r.at + most < 2 ^ 64 → JudgesAlong item (λ f. f) r (tell (drop k row)) (step k r).walk
  pub near : (k : ℕ) (r : Walk) → (step k r).walk.at ≤ r.at + most
  pub good : (k : ℕ) (r : Walk) → (step k r).walk.code ≡ 0 → r.code ≡ 0
  pub next : (k : ℕ) (r : Walk) → (step k r).walk.code ≡ 0 → (step k r).next ≡ k + long (drop k row)

-- one field
pub judges_one : {row : List ℕ} {item : Fmt → Fmt} (g w : ℕ) (q : ℕ → Walk → Walk)
    → ((v : ℕ) (r : Walk) → r.at + w < 2 ^ 64 → JudgesAlong item (λ f. f) r (v ∷ []) (q v r))
    → ((v : ℕ) (r : Walk) → ((q v r).at ≤ r.at + w) × ((q v r).code ≡ 0 → r.code ≡ 0))
    → Judges row item (one_told g) (λ l. 1) w (one_judged row g q)
judges_one {row} g w q along small = record {
  along = λ k r reach. told_as (ap (◌∷ []) (sym (here row k g))) (along (slice_index_or row k g) r reach);
  near = λ k r. (small (slice_index_or row k g) r).0;
  good = λ k r. (small (slice_index_or row k g) r).1;
  next = λ k r z. refl;
}

pub step_good : {q : Walk} (r : Walk) (w : ℕ) (b : Bool) (u c i : ℕ) → q ≡ onward w b u c i r → q.code ≡ 0 → r.code ≡ 0
unfolding onward
step_good r w b u c i d z = (clean r.code c (sym (ap (λ (q : Walk). q.code) d) ∙ z)).0

pub judges_number : (row : List ℕ) (g w lo hi : ℕ) → hi < 2 ^ w → Judges row (num w (lo ‥ hi)) (one_told g) (λ l. 1) w (one_judged row g (λ v. valued w v lo hi))
judges_number row g w lo hi fits = judges_one g w (λ v. valued w v lo hi) (λ v r reach. record { on = λ x. going (judge_num w reach lo hi fits x.is refl) }) (λ v r. (step_near r w true v _ 0 refl, step_good r w true v _ 0 refl))

-- a field made of parts
pub judges_parted : (row : List ℕ) (g w : ℕ) {j : Judge} {J : Pieces → Pieces} → ((h : List ℕ) → Matches (j h) w J) → Judges row (field w j free) (one_told g) (λ l. 1) w (one_judged row g (group_judged w J))
judges_parted row g w {j} {J} x = judges_one g w (group_judged w J) (λ v r reach. record { on = λ y. going (judge_group reach (x _) y.is refl) }) (λ v r. (step_near r w true v _ _ refl, step_good r w true v _ _ refl))

-- one behind the other
pub judges_next : {row : List ℕ} {a b : Fmt → Fmt} {ta tb : Telling} {la lb : Measure} {na nb : ℕ} {sa sb : JudgeStep} → Judges row a ta la na sa → Judges row b tb lb nb sb
    → Judges row (λ f. a (b f)) (then_told la ta tb) (then_of la lb) (na + nb) (then_judged sa sb)
judges_next {row} {a} {b} {ta} {tb} {la} {lb} {na} {nb} {sa} {sb} x y = record {
  along = λ k r reach.
      let p = sa k r in
      let one = judges_under b (x.along k r (omega arith)) in
      told_as (fronts row k la ta tb) (judges_then one (two k r (y.along p.next p.walk (omega (arith, x.near k r))) (p.walk.code == 0) refl));
  near = λ k r. let p = sa k r in omega (arith, x.near k r, y.near p.next p.walk);
  good = λ k r z. let p = sa k r in x.good k r (y.good p.next p.walk z);
  next = λ k r z.
      let p = sa k r in
      let e = x.next k r (y.good p.next p.walk z) in
      y.next p.next p.walk z ∙ ap (λ j. j + lb (drop j row)) e ∙ long_then row k la lb;
}
  where
    two : (k : ℕ) (r : Walk) → let p = sa k r in let q = (sb p.next p.walk).walk in JudgesAlong b (λ f. f) p.walk (tb (drop p.next row)) q → (t : Bool) → (p.walk.code == 0) ≡ t
        → JudgesAlong b (λ f. f) p.walk (tb (drop (k + la (drop k row)) row)) q
    two k r a true t = let p = sa k r in told_as (ap (λ j. tb (drop j row)) (x.next k r (eqb-true p.walk.code 0 t))) a
    two k r a false t = let p = sa k r in retold _ (eqb-false p.walk.code 0 t) a

-- at most as many bits as
pub judges_most : {row : List ℕ} {item : Fmt → Fmt} {tell : Telling} {long : Measure} {most : ℕ} {step : JudgeStep} (n : ℕ) → most ≤ n → Judges row item tell long most step → Judges row item tell long n step
judges_most n l x = record { along = λ k r reach. x.along k r (omega arith); near = λ k r. omega (arith, x.near k r); good = x.good; next = x.next }

-- a step told in another way
pub judges_as : {row : List ℕ} {item : Fmt → Fmt} {tell : Telling} {long : Measure} {most : ℕ} {step step' : JudgeStep} → ((k : ℕ) (r : Walk) → step k r ≡ step' k r) → Judges row item tell long most step → Judges row item tell long most step'
judges_as {row} {item} {tell} {long} {most} e x = subst (Judges row item tell long most) (λ i k r. e k r i) x

-- items of l numbers each, all of them: a step that takes those of one item
pub judges_evenly : {row : List ℕ} {item : Fmt → Fmt} {tell : Telling} {l b : ℕ} {q : ℕ → Walk → Walk} → Judges row item tell (λ r. l) b (λ k r. record { walk = q k r; next = k + l })
    → (n : ℕ) → Judges row (repeat n item) (repeat_told (λ r. l) n tell) (λ r. n * l) (n * b) (even_step l n q)
unfolding repeat even_judged repeat_told
judges_evenly x zero = record { along = λ k r reach. judges_stay; near = λ k r. omega arith; good = λ k r z. z; next = λ k r z. refl }
judges_evenly x (suc n) =
    let z = judges_next x (judges_evenly x n) in
    record { along = λ k r reach. z.along k r (omega arith); near = λ k r. omega (arith, z.near k r); good = λ k r c. z.good k r c; next = λ k r c. refl }

-- a number that decides
module _ (row : List ℕ) (g w lo hi : ℕ) (fits : hi < 2 ^ w) where
  judges_decide : (r : Walk) → r.at + w < 2 ^ 64 → (v : ℕ) (a : ℕ → Fmt → Fmt) → JudgesAlong (λ f. deciding w (lo ‥ hi) λ n. a n f) (a v) r (v ∷ []) (valued w v lo hi r)
  judges_decide r reach v a = record { on = λ x. going (judge_deciding w reach lo hi fits x.is refl) }

  abbrev decider : ℕ → Walk → Walk
  decider k r = valued w (slice_index_or row k g) lo hi r

  decider_near : (k : ℕ) (r : Walk) → (decider k r).at ≤ r.at + w
  decider_near k r = step_near r w true (slice_index_or row k g) _ 0 refl

  decider_good : (k : ℕ) (r : Walk) → (decider k r).code ≡ 0 → r.code ≡ 0
  decider_good k r z = step_good r w true (slice_index_or row k g) _ 0 refl z

  -- and what it decides, whatever it is
  pub judges_decided : {a : ℕ → Fmt → Fmt} {ta : ℕ → Telling} {la : ℕ → Measure} {sa : ℕ → JudgeStep} (most : ℕ) → ((v : ℕ) → Judges row (a v) (ta v) (la v) most (sa v))
      → Judges row (λ f. deciding w (lo ‥ hi) λ v. a v f) (decided_told g ta) (decided_of g la) (w + most) (decided_judged row g w lo hi sa)
  judges_decided {a} {ta} {la} {sa} most x = record {
    along = λ k r reach.
        let v = get_or row k g in
        told_as (after_one row k g ta) (judges_then (judges_decide r (omega arith) v a) ((x v).along (k + 1) (decider k r) (omega (arith, decider_near k r))));
    near = λ k r. let y = x (slice_index_or row k g) in omega (arith, decider_near k r, y.near (k + 1) (decider k r));
    good = λ k r z. decider_good k r ((x (slice_index_or row k g)).good (k + 1) (decider k r) z);
    next = λ k r z. (x (slice_index_or row k g)).next (k + 1) (decider k r) z ∙ long_one row k g la;
  }

  -- and as many items as it says, of l numbers and b bits each; where it is refused none is walked
  module _ {item : Fmt → Fmt} {tell : Telling} {l b : ℕ} {q : ℕ → Walk → Walk} (x : Judges row item tell (λ r. l) b (λ k r. record { walk = q k r; next = k + l })) where
    abbrev ends : (k : ℕ) (r : Walk) → Bool → Stepped
    ends k r t = cond t (even_step l (slice_index_or row k g) q (k + 1) (decider k r)) (record { walk = decider k r; next = k + 1 })

    few : (k : ℕ) (r : Walk) → (decider k r).code ≡ 0 → slice_index_or row k g ≤ hi
    few k r z = (valued_between r w (slice_index_or row k g) lo hi refl z).1

    small : (k : ℕ) (r : Walk) → (decider k r).code ≡ 0 → slice_index_or row k g * b ≤ hi * b
    small k r z = mul-le-mul_right b (few k r z)

    pub judges_counted : Judges row (counted w (lo ‥ hi) item) (decided_told g (λ n. repeat_told (λ r. l) n tell)) (decided_of g (λ n r. n * l)) (w + hi * b) (counted_judged row g w lo hi l q)
    judges_counted = record {
      along = λ k r reach. told_as (after_one row k g (λ n. repeat_told (λ r. l) n tell)) (judges_then (judges_decide r (omega arith) (slice_index_or row k g) (λ n. repeat n item)) (along k r reach ((decider k r).code == 0) refl));
      near = λ k r. near k r ((decider k r).code == 0) refl;
      good = λ k r. good k r ((decider k r).code == 0) refl;
      next = λ k r. next k r ((decider k r).code == 0) refl;
    }
      where
        along : (k : ℕ) (r : Walk) → r.at + (w + hi * b) < 2 ^ 64 → (t : Bool) (e : nat_eq (decider k r).code 0 ≡ t)
            → JudgesAlong (repeat (slice_index_or row k g) item) (λ f. f) (decider k r) (repeat_told (λ r. l) (slice_index_or row k g) tell (drop (k + 1) row)) (ends k r t).walk
        along k r reach true e = (judges_evenly x (slice_index_or row k g)).along (k + 1) (decider k r) (omega (arith, decider_near k r, small k r (eqb-true _ 0 e)))
        along k r reach false e = judges_refused (eqb-false _ 0 e)

        near : (k : ℕ) (r : Walk) (t : Bool) (e : nat_eq (decider k r).code 0 ≡ t) → (ends k r t).walk.at ≤ r.at + (w + hi * b)
        near k r true e = let y = judges_evenly x (slice_index_or row k g) in omega (arith, decider_near k r, small k r (eqb-true _ 0 e), y.near (k + 1) (decider k r))
        near k r false e = omega (arith, decider_near k r)

        good : (k : ℕ) (r : Walk) (t : Bool) (e : nat_eq (decider k r).code 0 ≡ t) → (ends k r t).walk.code ≡ 0 → r.code ≡ 0
        good k r true e z = decider_good k r (eqb-true _ 0 e)
        good k r false e z = absurd (eqb-false _ 0 e z)

        next : (k : ℕ) (r : Walk) (t : Bool) (e : nat_eq (decider k r).code 0 ≡ t) → (ends k r t).walk.code ≡ 0 → (ends k r t).next ≡ k + decided_of g (λ n r. n * l) (drop k row)
        next k r true e z = long_one row k g (λ n r. n * l)
        next k r false e z = absurd (eqb-false _ 0 e z)

-- items one behind another; the first refused one ends it
pub judges_repeated : {row : List ℕ} {item : Fmt → Fmt} {tell : Telling} {long : Measure} {most : ℕ} {step : JudgeStep} → Judges row item tell long most step
    → (n : ℕ) → Judges row (repeat n item) (repeat_told long n tell) (repeat_of long n long) (n * most) (repeat_judged n step)
unfolding repeat repeat_of repeat_told repeat_judged
judges_repeated x zero = record { along = λ k r reach. judges_stay; near = λ k r. omega arith; good = λ k r z. z; next = λ k r z. sym (add-zero k) }
judges_repeated {row} {item} {tell} {long} {most} {step} x (suc n) = let y = judges_next x (judges_repeated x n) in record {
  along = λ k r reach. along y k r reach ((step k r).walk.code == 0) refl;
  near = λ k r. near y k r ((step k r).walk.code == 0) refl;
  good = λ k r. good y k r ((step k r).walk.code == 0) refl;
  next = λ k r. next y k r ((step k r).walk.code == 0) refl;
}
  where
    ends : (k : ℕ) (r : Walk) → Bool → Stepped
    ends k r t = let a = step k r in cond t (repeat_judged n step a.next a.walk) a

    Both : Type 0
    Both = Judges row (λ f. item (repeat n item f)) (then_told long tell (repeat_told long n tell)) (then_of long (repeat_of long n long)) (most + n * most) (then_judged step (repeat_judged n step))

    along : Both → (k : ℕ) (r : Walk) → r.at + suc n * most < 2 ^ 64 → (t : Bool) → ((step k r).walk.code == 0) ≡ t
        → JudgesAlong (λ f. item (repeat n item f)) (λ f. f) r (then_told long tell (repeat_told long n tell) (drop k row)) (ends k r t).walk
    along y k r reach true e = y.along k r (omega arith)
    along y k r reach false e =
        told_as (fronts row k long tell (repeat_told long n tell)) (judges_then (judges_under (repeat n item) (x.along k r (omega arith))) (judges_refused (eqb-false _ 0 e)))

    near : Both → (k : ℕ) (r : Walk) (t : Bool) → ((step k r).walk.code == 0) ≡ t → (ends k r t).walk.at ≤ r.at + suc n * most
    near y k r true e = omega (arith, y.near k r)
    near y k r false e = omega (arith, x.near k r)

    good : Both → (k : ℕ) (r : Walk) (t : Bool) → ((step k r).walk.code == 0) ≡ t → (ends k r t).walk.code ≡ 0 → r.code ≡ 0
    good y k r true e z = y.good k r z
    good y k r false e z = absurd (eqb-false _ 0 e z)

    next : Both → (k : ℕ) (r : Walk) (t : Bool) → ((step k r).walk.code == 0) ≡ t → (ends k r t).walk.code ≡ 0 → (ends k r t).next ≡ k + then_of long (repeat_of long n long) (drop k row)
    next y k r true e z = y.next k r z
    next y k r false e z = absurd (eqb-false _ 0 e z)

-- ---- turns of a loop

pub even_judged_turn : (l n : ℕ) (q : ℕ → Walk → Walk) (k : ℕ) {m k' : ℕ} (r : Walk) {p : Walk} → m ≡ suc n → k' ≡ k + l → p ≡ q k r → even_judged l m q k r ≡ even_judged l n q k' p
unfolding even_judged
even_judged_turn l n q k r e f d = ap (λ m. even_judged l m q k r) e ∙ sym (ap₂ (λ k p. even_judged l n q k p) f d)

pub repeat_judged_turn : (step : JudgeStep) (n k : ℕ) {m : ℕ} (r : Walk) {a : Stepped} → m ≡ suc n → a ≡ step k r → repeat_judged m step k r ≡ cond (a.walk.code == 0) (repeat_judged n step a.next a.walk) a
unfolding repeat_judged
repeat_judged_turn step n k r e d = ap (λ m. repeat_judged m step k r) e ∙ sym (ap (λ (a : Stepped). cond (a.walk.code == 0) (repeat_judged n step a.next a.walk) a) d)
