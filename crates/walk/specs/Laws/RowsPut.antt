-- Putting what a row of numbers tells is a stretch of putting, once for every layout: one field, one behind another, what a number decides, counted and repeated. Assumes nothing.
use Rattle.std.specs.Prelude.{◌≡◌, ℕ, zero, suc, ◌+◌, ◌*◌, ◌%◌, ◌^◌, ◌<◌, ◌≤◌, Bool, List, [], ◌∷◌, ◌++◌, get_or, drop, slice_index_or, refl}
use Rattle.std.proofs.Common.{sym, ap, ◌∙◌, subst, append_assoc, arith, add-zero, mod-eq_of_lt}
use Rattle.std.proofs.Math.Path.{subst⁻¹}
use Rattle.format.specs.Correcting.{put_in}
use Rattle.format.specs.Fmt.{Judge, Fmt, field, choice, write}
use Rattle.format.specs.Groups.{repeat, counted, Measure, then_of, decided_of, repeat_of, Telling, one_told, then_told, decided_told, repeat_told}
use Rattle.format.specs.Words.{Test, deciding}
use Rattle.format.specs.Laws.Extent.{opens_field, opens_choice}
use Rattle.format.specs.Laws.Putting.{Putting}
use Rattle.format.proofs.Laws.Putting.{put_number}
use Rattle.format.specs.Laws.Round.{written}
use Rattle.walk.specs.Rows.{Put, PutStep, one_put, then_put, decided_put, even_put, even_put_step, counted_put, repeat_put}
use Rattle.walk.specs.Laws.Loops.{PutsAlong, puts_stay, puts_then}
use Rattle.walk.specs.declared.making.Laid.{Laid}
use Rattle.walk.specs.Laws.Rows.{here, fronts, after_one, long_then, long_one}

put_as : {g g' : Fmt → Fmt} {at : ℕ} {us vs t u : List ℕ} {a b : ℕ} → us ≡ vs → a ≡ b → PutsAlong g g' at us t a u → PutsAlong g g' at vs t b u
put_as {g} {g'} {at} {us} {vs} {t} {u} {a} {b} e p x = subst (λ l. PutsAlong g g' at l t b u) e (subst (λ p. PutsAlong g g' at us t p u) p x)

-- what writing accepts fits its bits
narrow : (w : ℕ) {j : Judge} {g : ℕ → Fmt} {s t : List ℕ} {b : List Bool} {at v : ℕ} {vs : List ℕ} → Putting s b (choice w j g) at (v ∷ vs) t → v < 2 ^ w
unfolding write
narrow w {j} {g} {at = at} {v} {vs} x = (written w j x.before at v (write (g v) (v ∷ x.before) (at + w) vs) x.left x.todo).narrow

-- The step puts the item that the row tells from number k on, and takes its numbers if writing accepts them.
pub record Puts (row : List ℕ) (item : Fmt → Fmt) (tell : Telling) (long : Measure) (step : PutStep) : Type 0 where
  pub along : (k at : ℕ) (t : List ℕ) → PutsAlong item (λ f. f) at (tell (drop k row)) t (step k at t).0.at (step k at t).1
  pub next : (k at : ℕ) (t : List ℕ) (f : Fmt) (vs : List ℕ) {s : List ℕ} {b : List Bool} → Putting s b (item f) at (tell (drop k row) ++ vs) t → (step k at t).0.next ≡ k + long (drop k row)

-- one field
pub puts_one : {row : List ℕ} (g w : ℕ) (j : Judge) (m : List ℕ → Bool) → w ≤ 32 → Puts row (field w j m) (one_told g) (λ l. 1) (one_put row g w)
puts_one {row} g w j m small = record { along = λ k at t. put_as (ap (◌∷ []) (sym (here row k g))) refl (record { on = λ x. put_number w small opens_field x refl }); next = λ k at t f vs x. refl }

-- one behind the other
pub puts_next : {row : List ℕ} {a b : Fmt → Fmt} {ta tb : Telling} {la lb : Measure} {sa sb : PutStep} → Puts row a ta la sa → Puts row b tb lb sb → Puts row (λ f. a (b f)) (then_told la ta tb) (then_of la lb) (then_put sa sb)
puts_next {row} {a} {b} {ta} {tb} {la} {lb} {sa} {sb} x y = record {
  along = λ k at t. record { on = λ {s} {b = z} {f} {vs} p. let (e, q) = one k at t f vs p in (y.along (sa k at t).0.next (sa k at t).0.at (sa k at t).1).on q };
  next = λ k at t f vs p.
      let (e, q) = one k at t f vs p in
      let o = sa k at t in
      y.next o.0.next o.0.at o.1 f vs q ∙ ap (λ j. j + lb (drop j row)) e ∙ long_then row k la lb;
}
  where
    one : (k at : ℕ) (t : List ℕ) (f : Fmt) (vs : List ℕ) {s : List ℕ} {z : List Bool} → Putting s z (a (b f)) at (then_told la ta tb (drop k row) ++ vs) t
        → let o = sa k at t in (o.0.next ≡ k + la (drop k row)) × Putting s z (b f) o.0.at (tb (drop o.0.next row) ++ vs) o.1
    one k at t f vs {s} {z} p =
        let o = sa k at t in
        let us = tb (drop (k + la (drop k row)) row) in
        let p' = subst (λ l. Putting s z (a (b f)) at l t) (ap (◌++ vs) (sym (fronts row k la ta tb)) ∙ append_assoc (ta (drop k row)) us vs) p in
        let e = x.next k at t (b f) (us ++ vs) p' in
        (e, subst⁻¹ (λ j. Putting s z (b f) o.0.at (tb (drop j row) ++ vs) o.1) e ((x.along k at t).on p'))

-- a number that decides, and what it decides
puts_decide : (w : ℕ) → w ≤ 32 → (test : Test) (v at : ℕ) (t : List ℕ) (a : ℕ → Fmt → Fmt) → PutsAlong (λ f. deciding w test λ n. a n f) (a v) at (v ∷ []) t (at + w) (put_in t at w v)
puts_decide w small test v at t a = record { on = λ x. put_number w small opens_choice x refl }

module _ (row : List ℕ) (g w : ℕ) (small : w ≤ 32) (test : Test) where
  pub puts_decided : {a : ℕ → Fmt → Fmt} {ta : ℕ → Telling} {la : ℕ → Measure} {sa : ℕ → PutStep} → ((v : ℕ) → Puts row (a v) (ta v) (la v) (sa v)) → Puts row (λ f. deciding w test λ v. a v f) (decided_told g ta) (decided_of g la) (decided_put row g w sa)
  puts_decided {a} {ta} {la} {sa} x = record {
    along = λ k at t. let v = get_or row k g in put_as (after_one row k g ta) refl (puts_then (puts_decide w small test v at t a) ((x v).along (k + 1) (at + w) (put_in t at w v)));
    next = λ k at t f vs {s} {b} p.
        let v = get_or row k g in
        let p' = subst (λ l. Putting s b (deciding w test λ v. a v f) at (l ++ vs) t) (sym (after_one row k g ta)) p in
        (x v).next (k + 1) (at + w) (put_in t at w v) f vs ((puts_decide w small test v at t a).on p') ∙ long_one row k g la;
  }

-- a step told in another way
pub puts_as : {row : List ℕ} {item : Fmt → Fmt} {tell : Telling} {long : Measure} {step step' : PutStep} → ((k at : ℕ) (t : List ℕ) → step k at t ≡ step' k at t) → Puts row item tell long step → Puts row item tell long step'
puts_as {row} {item} {tell} {long} e x = subst (Puts row item tell long) (λ i k at t. e k at t i) x

-- items of l numbers and b bits each
pub puts_evenly : {row : List ℕ} {item : Fmt → Fmt} {tell : Telling} {l : ℕ} (b : ℕ) {q : (k at : ℕ) → List ℕ → List ℕ} → Puts row item tell (λ r. l) (λ k at t. (record { at = at + b; next = k + l }, q k at t))
    → (n : ℕ) → Puts row (repeat n item) (repeat_told (λ r. l) n tell) (λ r. n * l) (even_put_step l b n q)
unfolding repeat even_put repeat_told
puts_evenly b x zero = let stays : (at : ℕ) → at ≡ at + 0 * b = λ at. omega arith in record { along = λ k at t. put_as refl (stays at) puts_stay; next = λ k at t f vs p. refl }
puts_evenly b x (suc n) =
    let y = puts_next x (puts_evenly b x n) in
    let on : (at : ℕ) → at + b + n * b ≡ at + suc n * b = λ at. omega arith in
    record { along = λ k at t. put_as refl (on at) (y.along k at t); next = λ k at t f vs p. refl }

-- as many as the number before them says
pub puts_counted : (row : List ℕ) (g w : ℕ) → w ≤ 32 → (test : Test) {item : Fmt → Fmt} {tell : Telling} {l : ℕ} (b : ℕ) {q : (k at : ℕ) → List ℕ → List ℕ} → Puts row item tell (λ r. l) (λ k at t. (record { at = at + b; next = k + l }, q k at t))
    → Puts row (counted w test item) (decided_told g (λ n. repeat_told (λ r. l) n tell)) (decided_of g (λ n r. n * l)) (counted_put row g w l b q)
puts_counted row g w small test {item} {tell} {l} b {q} x = record {
  along = λ k at t. record { on = λ {s} {b = z} {f} {vs} p. subst⁻¹ (λ n. let e = ends k at t n in Putting s z f e.0.at vs e.1) (few k at t f vs p) ((all.along k at t).on p) };
  next = λ k at t f vs p. ap (λ n. k + 1 + n * l) (few k at t f vs p) ∙ long_one row k g (λ n r. n * l);
}
  where
    all : Puts row (counted w test item) (decided_told g (λ n. repeat_told (λ r. l) n tell)) (decided_of g (λ n r. n * l)) (decided_put row g w (λ n. even_put_step l b n q))
    all = puts_decided row g w small test (λ n. puts_evenly b x n)

    ends : (k at : ℕ) (t : List ℕ) (n : ℕ) → Laid × List ℕ
    ends k at t n = even_put_step l b n q (k + 1) (at + w) (put_in t at w (slice_index_or row k g))

    few : (k at : ℕ) (t : List ℕ) (f : Fmt) (vs : List ℕ) {s : List ℕ} {z : List Bool} → Putting s z (counted w test item f) at (decided_told g (λ n. repeat_told (λ r. l) n tell) (drop k row) ++ vs) t → slice_index_or row k g % 2 ^ w ≡ slice_index_or row k g
    few k at t f vs {s} {z} p = mod-eq_of_lt (narrow w (subst (λ us. Putting s z (counted w test item f) at (us ++ vs) t) (sym (after_one row k g (λ n. repeat_told (λ r. l) n tell))) p))

-- repeated
pub puts_repeated : {row : List ℕ} {item : Fmt → Fmt} {tell : Telling} {long : Measure} {step : PutStep} → Puts row item tell long step → (n : ℕ) → Puts row (repeat n item) (repeat_told long n tell) (repeat_of long n long) (repeat_put n step)
unfolding repeat repeat_of repeat_told repeat_put
puts_repeated x zero = record { along = λ k at t. puts_stay; next = λ k at t f vs p. sym (add-zero k) }
puts_repeated x (suc n) = puts_next x (puts_repeated x n)

-- each goes no further than `most` bits: so do n of them
pub puts_near : (step : PutStep) (most : ℕ) → ((k at : ℕ) (t : List ℕ) → (step k at t).0.at ≤ at + most) → (n k at : ℕ) (t : List ℕ) → (repeat_put n step k at t).0.at ≤ at + n * most
unfolding repeat_put
puts_near step most small zero k at t = omega arith
puts_near step most small (suc n) k at t = let a = step k at t in omega (arith, small k at t, puts_near step most small n a.0.next a.0.at a.1)

-- ---- turns of a loop

pub even_put_turn : (l b n : ℕ) (q : (k at : ℕ) → List ℕ → List ℕ) (k at : ℕ) {m k' at' : ℕ} (t : List ℕ) {p : List ℕ} → m ≡ suc n → k' ≡ k + l → at' ≡ at + b → p ≡ q k at t → even_put l b m q k at t ≡ even_put l b n q k' at' p
unfolding even_put
even_put_turn l b n q k at t e f h d = ap (λ m. even_put l b m q k at t) e ∙ sym (λ i. even_put l b n q (f i) (h i) (d i))

pub repeat_put_turn : (step : PutStep) (n k at : ℕ) {m : ℕ} (t : List ℕ) {a : Put} → m ≡ suc n → a ≡ step k at t → repeat_put m step k at t ≡ repeat_put n step a.0.next a.0.at a.1
unfolding repeat_put
repeat_put_turn step n k at t e d = ap (λ m. repeat_put m step k at t) e ∙ sym (ap (λ (a : Put). repeat_put n step a.0.next a.0.at a.1) d)
