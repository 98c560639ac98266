-- Good entries, judged one by one by a walk that seeks no field, leave it 32 bits further on each: a field, an entry, and by induction n of them. Assumes nothing.
use Prim.Native.Nat.{ℕ, zero, suc, ◌+◌, ◌-◌, ◌*◌, ◌^◌, ◌≤◌, ◌<◌}
use Rattle.std.specs.Prelude.{◌≡◌, refl, Bool, true, false, List, [], ◌∷◌, eqb, length, get_or, Option, Some, None, is_some, Result, Ok, Err, is_ok}
use Rattle.std.proofs.Common.{sym, ◌∙◌, eqb-true}
use Rattle.std.proofs.Math.Path.{ap, subst}
use Rattle.std.proofs.Math.Nat.{mod-eq_of_lt}
use native.Mathlib.Omega.{arith}
use Rattle.std.proofs.lemmas.Bool.{eqb-false}
use Rattle.walk.specs.Judging.{valued}
use Rattle.walk.specs.Pieces.{unpieced, piecewise}
use Rattle.walk.specs.Reading.{grouped}
use Rattle.walk.specs.Rows.{even_judged}
use Rattle.walk.specs.Walk.{Walk, seen, left_of, at_of, width_of, onward}
use Rattle.walk.specs.declared.walk.Walk.{Walk as Declared}
use Rattle.format.specs.Refusals.{told_of}
use Rattle.format.specs.declared.Refusal.{Refusal}
use Rattle.notice_fields.specs.Parts.{moment}
use Rattle.notice_fields.specs.PartsSteps.{time_judged}
use Rattle.tide.specs.Making.{level_judged, entry_judged, entries_judged, three_put, entry_put}
use Rattle.tide.specs.Row.{some_time}
use Rattle.tide.specs.Tide.{least_of}
use Rattle.tide.specs.RowEntries.{GoodEntry, GoodEntries, quiet, Passes}
use Rattle.tide.specs.Laws.Entries.{no_fault, timed, moment_good, least_good}

-- where a row has a number, it does not matter what would count for it
there : (l : List ℕ) (k a b : ℕ) → k < length l → get_or l k a ≡ get_or l k b
there [] k a b h = absurd (omega arith)
there (x ∷ l) zero a b h = refl
there (x ∷ l) (suc k) a b h = there l k a b (omega arith)

pub entry_there : (row : List ℕ) (k at : ℕ) (t : List ℕ) → k + 2 < length row → three_put (get_or row k 0) (get_or row (k + 1) 0) (get_or row (k + 2) 0) at t ≡ entry_put row k at t
entry_there row k at t fits =
    let time = there row k 0 some_time (omega arith) in
    let sign = there row (k + 1) 0 1 (omega arith) in
    let value = there row (k + 2) 0 1 fits in
    λ i. three_put (time i) (sign i) (value i) at t

-- ---- a time

-- its parts are good, and the last begins 15 bits in
time_good : {v sign value : ℕ} → GoodEntry v sign value → piecewise moment [] (unpieced 21 v) ≡ timed v 0 15
time_good {v} (narrow, bit, small, g) = moment_good v narrow (omega (arith, g.0)) (omega (arith, g.1)) (omega (arith, g.2)) (omega (arith, g.3)) (omega (arith, g.4))

-- ---- a field, an entry, n of them

module _ (found : Bool) (spot width : ℕ) where
  step_quiet : (at u w v i : ℕ) → at + w < 2 ^ 64 → onward w true v 0 i (quiet at u found spot width) ≡ quiet (at + w) v found spot width
  unfolding onward
  step_quiet at u w v i a = ap (λ p. quiet p v found spot width) (mod-eq_of_lt a)

  value_quiet : (at u w v lo hi : ℕ) → at + w < 2 ^ 64 → lo ≤ v → v ≤ hi → valued w v lo hi (quiet at u found spot width) ≡ quiet (at + w) v found spot width
  value_quiet at u w v lo hi a b c = ap (λ f. onward w true v f 0 (quiet at u found spot width)) (no_fault v lo hi b c) ∙ step_quiet at u w v 0 a

  entry_quiet : (at u : ℕ) {time sign value : ℕ} → at + 32 < 2 ^ 64 → GoodEntry time sign value → level_judged sign value (time_judged time (quiet at u found spot width)) ≡ quiet (at + 32) value found spot width
  entry_quiet at u {time} {sign} {value} reach g =
      let one : time_judged time (quiet at u found spot width) ≡ quiet (at + 21) time found spot width =
      ap (λ p. grouped 21 time p (quiet at u found spot width)) (time_good g) ∙ step_quiet at u 21 time 15 (omega arith) in
      let end : at + 21 + 1 + 10 ≡ at + 32 = omega arith in
      ap (level_judged sign value) one ∙ ap (valued 10 value (least_of sign) 1_023) (value_quiet (at + 21) time 1 sign 0 1 (omega arith) (omega arith) (omega (arith, g.1)))
      ∙ value_quiet (at + 21 + 1) sign 10 value (least_of sign) 1_023 (omega arith) (least_good sign value (omega (arith, g.0, g.1, g.2, g.3))) (omega (arith, g.2)) ∙ (λ j. quiet (end j) value found spot width)

  first_quiet : (row : List ℕ) (n k at u : ℕ) → at + 32 < 2 ^ 64 → GoodEntries row (suc n) k → entry_judged row k (quiet at u found spot width) ≡ quiet (at + 32) (get_or row (k + 2) 1) found spot width
  first_quiet row n k at u reach g =
      let e : k + 0 * 3 ≡ k = omega arith in
      entry_quiet at u reach (subst (λ i. GoodEntry (get_or row i some_time) (get_or row (i + 1) 1) (get_or row (i + 2) 1)) e (g 0 (omega arith)))

  pub entries_quiet : (row : List ℕ) (n k at u : ℕ) → at + suc n * 32 < 2 ^ 64 → GoodEntries row (suc n) k
      → entries_judged row (suc n) k (quiet at u found spot width) ≡ quiet (at + suc n * 32) (get_or row (k + n * 3 + 2) 1) found spot width
  unfolding even_judged
  entries_quiet row zero k at u reach g =
      let end : at + 32 ≡ at + 1 * 32 = omega arith in
      let number : k + 2 ≡ k + 0 * 3 + 2 = omega arith in
      first_quiet row 0 k at u (omega arith) g ∙ (λ j. quiet (end j) (get_or row (number j) 1) found spot width)
  entries_quiet row (suc n) k at u reach g =
      let end : at + 32 + suc n * 32 ≡ at + suc (suc n) * 32 = omega arith in
      let number : k + 3 + n * 3 + 2 ≡ k + suc n * 3 + 2 = omega arith in
      let later : GoodEntries row (suc n) (k + 3) = λ j l.
      let e : k + suc j * 3 ≡ k + 3 + j * 3 = omega arith in
      subst (λ i. GoodEntry (get_or row i some_time) (get_or row (i + 1) 1) (get_or row (i + 2) 1)) e (g (suc j) (omega arith)) in
      ap (entries_judged row (suc n) (k + 3)) (first_quiet row (suc n) k at u (omega arith) g)
      ∙ entries_quiet row n (k + 3) (at + 32) (get_or row (k + 2) 1) (omega arith) later ∙ (λ j. quiet (end j) (get_or row (number j) 1) found spot width)

-- one more entry that the row has
pub good_turn : (row : List ℕ) (k n : ℕ) → GoodEntries row n k → k + n * 3 + 2 < length row → GoodEntry (get_or row (k + n * 3) 0) (get_or row (k + n * 3 + 1) 0) (get_or row (k + n * 3 + 2) 0) → GoodEntries row (n + 1) k
good_turn row k n g fits e j l = go (eqb j n) refl
  where
    go : (b : Bool) → eqb j n ≡ b → let i = k + j * 3 in GoodEntry (get_or row i some_time) (get_or row (i + 1) 1) (get_or row (i + 2) 1)
    go true b =
        let i = k + n * 3 in
        rw (eqb-true j n b, there row i some_time 0 (omega arith), there row (i + 1) 1 0 (omega arith), there row (i + 2) 1 0 fits) e
    go false b = let other = eqb-false j n b in g j (omega (arith, other))

-- a walk of the code that has refused nothing and seeks no field
pub quiet_seen : (w : Declared) → is_ok w.verdict ≡ true → is_some w.sought ≡ false → seen w ≡ quiet w.at w.v (is_some w.spot) (at_of w.spot) (width_of w.spot)
quiet_seen w e d = go w.verdict w.sought e d
  where
    go : (x : Result Unit Refusal) (o : Option ℕ) → is_ok x ≡ true → is_some o ≡ false
        → record { at = w.at; code = (told_of x).code; offset = (told_of x).bit; v = w.v; seek = is_some o; left = left_of o; found = is_some w.spot; spot = at_of w.spot; width = width_of w.spot } ≡ quiet w.at w.v (is_some w.spot) (at_of w.spot) (width_of w.spot)
    go (Ok a) None e d = refl
    go (Ok a) (Some n) e d = absurd cc
    go (Err f) o e d = absurd cc

-- past n entries at once, with the code's own numbers
pub pass_quiet : (row : List ℕ) (n k : ℕ) (w : Walk) {v : ℕ} → n ≤ 511 → Passes row n k w → v ≡ get_or row (k + n * 3 - 1) 1 → quiet (w.at + n * 32) v w.found w.spot w.width ≡ entries_judged row n k w
pass_quiet row zero k w few x d = absurd (omega (arith, x.some))
pass_quiet row (suc n) k w few x d =
    let number : k + suc n * 3 - 1 ≡ k + n * 3 + 2 = omega arith in
    let value = d ∙ ap (λ i. get_or row i 1) number in
    (λ j. quiet (w.at + suc n * 32) (value j) w.found w.spot w.width) ∙ sym (ap (entries_judged row (suc n) k) x.is ∙ entries_quiet w.found w.spot w.width row n k w.at w.v (omega (arith, x.near)) x.good)
