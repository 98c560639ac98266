-- Areas judged: a point, what an area holds by its kind, an area, and all of them, by the laws on what a row tells. And one turn of each loop, with the code's own numbers. Assumes nothing.
use Rattle.std.specs.Prelude.{ℕ, suc, ◌+◌, ◌*◌, ◌≤◌, ◌≡◌, refl, Bool, true, false, cond, List, eqb, get_or}
use Rattle.std.proofs.Common.{sym, ap, ap₂, ◌∙◌, arith, lit<, lit≤, eqb-true}
use Rattle.std.proofs.Math.Path.{subst⁻¹}
use Rattle.format.specs.Groups.{repeat, repeat_told}
use Rattle.walk.specs.Judging.{valued}
use Rattle.walk.specs.Rows.{even_step}
use Rattle.walk.specs.Laws.Judging.{valued_between}
use Rattle.walk.specs.Laws.RowsJudged.{Judges, judges_number, judges_parted, judges_next, judges_decided, judges_counted, judges_most, judges_as, judges_evenly, judges_repeated, even_judged_turn}
use Rattle.walk.specs.Walk.{Walk, Stepped}
use Rattle.notice_fields.specs.Areas.{Kind, sea, circle, several, kind_of, inside, area, areas}
use Rattle.notice_fields.specs.Terms.{our_point, point}
use Rattle.notice_fields.specs.Parts.{latitude_bits, longitude_bits, point_bits}
use Rattle.notice_fields.specs.PartsSteps.{latitude_judged, longitude_judged}
use Rattle.notice_fields.specs.Row.{inside_long, area_long, long_most, areas_long, point_told, inside_told, area_told, areas_told}
use Rattle.notice_fields.specs.Standing.{inside_most, area_most}
use Rattle.notice_fields.specs.Making.{point_judged, points_judged, inside_judged, area_judged, areas_judged}
use Rattle.notice_fields.specs.Laws.PartsWalking.{latitude_parts, longitude_parts}

module _ (row : List ℕ) where
  pub a_point_judged : Judges row point point_told (λ r. 2) point_bits (λ k r. record { walk = point_judged row k r; next = k + 2 })
  a_point_judged = judges_as (λ k r. let two : k + 1 + 1 ≡ k + 2 = omega arith in ap (λ n. record { walk = point_judged row k r; next = n }) two)
      (judges_next (judges_parted row 0 latitude_bits latitude_parts) (judges_parted row 0 longitude_bits longitude_parts))

  an_inside_judged : (j : Kind) → Judges row (inside our_point j) (inside_told j) (inside_long j) inside_most (inside_judged row j)
  unfolding repeat repeat_told
  an_inside_judged sea = judges_most inside_most (lit≤ tt) (judges_number row 0 8 0 255 (lit< tt))
  an_inside_judged circle = judges_most inside_most (lit≤ tt) (judges_next (judges_evenly a_point_judged 1) (judges_next (judges_number row 0 10 0 1_023 (lit< tt)) (judges_number row 0 2 0 3 (lit< tt))))
  an_inside_judged (several least) = judges_counted row 0 4 least 15 (lit< tt) a_point_judged

  an_area_judged : Judges row (area our_point) area_told area_long area_most (area_judged row)
  an_area_judged = judges_decided row 0 3 0 4 (lit< tt) inside_most (λ k. an_inside_judged (kind_of k))

  pub areas_judged_lem : (n : ℕ) → Judges row (areas our_point n) (areas_told n) (areas_long n) (n * area_most) (areas_judged row n)
  areas_judged_lem n = judges_repeated an_area_judged n

-- ---- turns of the loops

pub point_turn : (row : List ℕ) (n k : ℕ) {m k' a b : ℕ} (r : Walk) {p q : Walk} → m ≡ suc n → k' ≡ k + 2 → a ≡ get_or row k 0 → b ≡ get_or row (k + 1) 0 → p ≡ latitude_judged a r → q ≡ longitude_judged b p
    → points_judged row m k r ≡ points_judged row n k' q
point_turn row n k r e f ea eb d g = even_judged_turn 2 n (point_judged row) k r e f (g ∙ ap₂ (λ b p. longitude_judged b p) eb (d ∙ ap (λ a. latitude_judged a r) ea))

-- an area of each kind
module _ (row : List ℕ) (k : ℕ) (r : Walk) {kind : ℕ} {w : Walk} (e : kind ≡ get_or row k 0) (d : w ≡ valued 3 kind 0 4 r) where
  area_turn : {j : Kind} → kind_of kind ≡ j → area_judged row k r ≡ inside_judged row j (k + 1) w
  area_turn f = sym (ap (λ c. inside_judged row (kind_of c) (k + 1) (valued 3 c 0 4 r)) e) ∙ ap₂ (λ j w. inside_judged row j (k + 1) w) f (sym d)

  pub sea_turn : kind_of kind ≡ sea → area_judged row k r ≡ record { walk = valued 8 (get_or row (k + 1) 0) 0 255 w; next = k + 2 }
  sea_turn f = let two : k + 1 + 1 ≡ k + 2 = omega arith in area_turn f ∙ ap (λ n. record { walk = valued 8 (get_or row (k + 1) 0) 0 255 w; next = n }) two

  pub circle_turn : kind_of kind ≡ circle
      → area_judged row k r ≡ record { walk = valued 2 (get_or row (k + 4) 0) 0 3 (valued 10 (get_or row (k + 3) 0) 0 1_023 (points_judged row 1 (k + 1) w)); next = k + 5 }
  circle_turn f =
      let three : k + 1 + 1 * 2 ≡ k + 3 = omega arith in
      let four : k + 1 + 1 * 2 + 1 ≡ k + 4 = omega arith in
      let five : k + 1 + 1 * 2 + 1 + 1 ≡ k + 5 = omega arith in
      area_turn f ∙ (λ i. record { walk = valued 2 (get_or row (four i) 0) 0 3 (valued 10 (get_or row (three i) 0) 0 1_023 (points_judged row 1 (k + 1) w)); next = five i })

  -- one that counts n points
  pub several_turn : {n : ℕ} {c : Walk} (l : ℕ) → kind_of kind ≡ several l → n ≡ get_or row (k + 1) 0 → c ≡ valued 4 n l 15 w
      → area_judged row k r ≡ cond (eqb c.code 0) (record { walk = points_judged row n (k + 2) c; next = k + 2 + n * 2 }) (record { walk = c; next = k + 2 })
  several_turn {n} {c} l f en dc =
      let two : k + 1 + 1 ≡ k + 2 = omega arith in
      let at : ℕ → ℕ → Walk → Stepped = λ k n c. cond (eqb c.code 0) (even_step 2 n (point_judged row) k c) (record { walk = c; next = k }) in
      area_turn f ∙ ap₂ (at (k + 1 + 1)) (sym en) (ap (λ n. valued 4 n l 15 w) (sym en) ∙ sym dc) ∙ ap (λ k. at k n c) two

-- an area takes no more numbers than one of 15 points, whatever the row
inside_small : (j : Kind) (row : List ℕ) (k : ℕ) (w : Walk) → (inside_judged row j (k + 1) w).next ≤ k + long_most
inside_small sea row k w = omega arith
inside_small circle row k w = omega arith
inside_small (several l) row k w = go (eqb c.code 0) refl
  where
    n : ℕ
    n = get_or row (k + 1) 0

    c : Walk
    c = valued 4 n l 15 w

    go : (t : Bool) → eqb c.code 0 ≡ t → (cond {A = Stepped} t (even_step 2 n (point_judged row) (k + 1 + 1) c) (record { walk = c; next = k + 1 + 1 })).next ≤ k + long_most
    go true t = omega (arith, (valued_between w 4 n l 15 refl (eqb-true c.code 0 t)).1)
    go false t = omega arith

pub area_small : (row : List ℕ) (k : ℕ) (r : Walk) {a : Stepped} → a ≡ area_judged row k r → a.next ≤ k + long_most
area_small row k r d = subst⁻¹ (λ (a : Stepped). a.next ≤ k + long_most) d (inside_small (kind_of (get_or row k 0)) row k (valued 3 (get_or row k 0) 0 4 r))
