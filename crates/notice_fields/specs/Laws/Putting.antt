-- Areas put: a point, what an area holds by its kind, an area, and all of them, by the laws on what a row tells. And one turn of each loop, with the code's own numbers. Assumes nothing.
use Rattle.std.specs.Prelude.{ℕ, suc, ◌+◌, ◌*◌, ◌%◌, ◌≤◌, ◌≡◌, refl, List, get_or}
use Rattle.std.proofs.Common.{sym, ap, ap₂, ◌∙◌, arith, lit≤}
use Rattle.std.proofs.Math.Path.{subst⁻¹}
use Rattle.format.specs.Correcting.{put_in}
use Rattle.format.specs.Groups.{repeat, repeat_told}
use Rattle.walk.specs.Rows.{Put, even_put_step}
use Rattle.walk.specs.Laws.RowsPut.{Puts, puts_one, puts_next, puts_decided, puts_as, puts_evenly, puts_counted, puts_repeated, puts_near, even_put_turn}
use Rattle.notice_fields.specs.Areas.{Kind, sea, circle, several, kind_of, inside, areas}
use Rattle.notice_fields.specs.Terms.{our_point, point}
use Rattle.notice_fields.specs.Parts.{latitude_bits, longitude_bits, point_bits}
use Rattle.notice_fields.specs.Row.{inside_long, long_most, areas_long, point_told, inside_told, areas_told}
use Rattle.notice_fields.specs.Standing.{area_most}
use Rattle.notice_fields.specs.Making.{point_put, points_put, inside_put, area_put, areas_put}

module _ (row : List ℕ) where
  pub a_point_put : Puts row point point_told (λ r. 2) (λ k at t. (record { at = at + point_bits; next = k + 2 }, point_put row k at t))
  a_point_put = puts_as
      (λ k at t.
      let two : k + 1 + 1 ≡ k + 2 = omega arith in
      let all : at + latitude_bits + longitude_bits ≡ at + point_bits = omega arith in
      λ i. (record { at = all i; next = two i }, point_put row k at t))
      (puts_next (puts_one 0 latitude_bits _ _ (lit≤ tt)) (puts_one 0 longitude_bits _ _ (lit≤ tt)))

  an_inside_put : (j : Kind) → Puts row (inside our_point j) (inside_told j) (inside_long j) (inside_put row j)
  unfolding repeat repeat_told
  an_inside_put sea = puts_one 0 8 _ _ (lit≤ tt)
  an_inside_put circle = puts_next (puts_evenly point_bits a_point_put 1) (puts_next (puts_one 0 10 _ _ (lit≤ tt)) (puts_one 0 2 _ _ (lit≤ tt)))
  an_inside_put (several least) = puts_counted row 0 4 (lit≤ tt) _ point_bits a_point_put

  pub areas_put_lem : (n : ℕ) → Puts row (areas our_point n) (areas_told n) (areas_long n) (areas_put row n)
  areas_put_lem n = puts_repeated (puts_decided row 0 3 (lit≤ tt) _ (λ k. an_inside_put (kind_of k))) n

-- ---- turns of the loops

pub point_turn : (row : List ℕ) (n k at : ℕ) {m k' at' a b : ℕ} (t : List ℕ) {p q : List ℕ} → m ≡ suc n → k' ≡ k + 2 → at' ≡ at + point_bits → a ≡ get_or row k 0 → b ≡ get_or row (k + 1) 0
    → p ≡ put_in t at latitude_bits a → q ≡ put_in p (at + latitude_bits) longitude_bits b → points_put row m k at t ≡ points_put row n k' at' q
point_turn row n k at t e f h ea eb d g =
    even_put_turn 2 point_bits n (point_put row) k at t e f h (g ∙ ap₂ (λ p b. put_in p (at + latitude_bits) longitude_bits b) (d ∙ ap (λ a. put_in t at latitude_bits a) ea) eb)

-- an area of each kind
module _ (row : List ℕ) (k at : ℕ) (t : List ℕ) {kind : ℕ} {u : List ℕ} (e : kind ≡ get_or row k 0) (d : u ≡ put_in t at 3 kind) where
  area_turn : {j : Kind} → kind_of kind ≡ j → area_put row k at t ≡ inside_put row j (k + 1) (at + 3) u
  area_turn f = sym (ap (λ c. inside_put row (kind_of c) (k + 1) (at + 3) (put_in t at 3 c)) e) ∙ ap₂ (λ j u. inside_put row j (k + 1) (at + 3) u) f (sym d)

  pub sea_turn : kind_of kind ≡ sea → area_put row k at t ≡ (record { at = at + 11; next = k + 2 }, put_in u (at + 3) 8 (get_or row (k + 1) 0))
  sea_turn f =
      let two : k + 1 + 1 ≡ k + 2 = omega arith in
      let end : at + 3 + 8 ≡ at + 11 = omega arith in
      area_turn f ∙ (λ i. (record { at = end i; next = two i }, put_in u (at + 3) 8 (get_or row (k + 1) 0)))

  pub circle_turn : kind_of kind ≡ circle
      → area_put row k at t
      ≡ (record { at = at + 3 + point_bits + 12; next = k + 5 }, put_in (put_in (points_put row 1 (k + 1) (at + 3) u) (at + 3 + point_bits) 10 (get_or row (k + 3) 0)) (at + 3 + point_bits + 10) 2 (get_or row (k + 4) 0))
  circle_turn f =
      let three : k + 1 + 1 * 2 ≡ k + 3 = omega arith in
      let four : k + 1 + 1 * 2 + 1 ≡ k + 4 = omega arith in
      let five : k + 1 + 1 * 2 + 1 + 1 ≡ k + 5 = omega arith in
      let end : at + 3 + point_bits + 10 + 2 ≡ at + 3 + point_bits + 12 = omega arith in
      area_turn f
      ∙ (λ i. (record { at = end i; next = five i }, put_in (put_in (points_put row 1 (k + 1) (at + 3) u) (at + 3 + point_bits) 10 (get_or row (three i) 0)) (at + 3 + point_bits + 10) 2 (get_or row (four i) 0)))

  -- one that counts its points
  pub several_turn : {c : ℕ} (l : ℕ) → kind_of kind ≡ several l → c ≡ get_or row (k + 1) 0
      → area_put row k at t ≡ (record { at = at + 7 + c % 16 * point_bits; next = k + 2 + c % 16 * 2 }, points_put row (c % 16) (k + 2) (at + 7) (put_in u (at + 3) 4 c))
  several_turn {c} l f ec =
      let two : k + 1 + 1 ≡ k + 2 = omega arith in
      let seven : at + 3 + 4 ≡ at + 7 = omega arith in
      let from : ℕ → ℕ → ℕ → Put = λ k a c. even_put_step 2 point_bits (c % 16) (point_put row) k a (put_in u (at + 3) 4 c) in
      area_turn f ∙ ap (from (k + 1 + 1) (at + 3 + 4)) (sym ec) ∙ ap₂ (λ k a. from k a c) two seven

-- an area goes no further than 15 points do, whatever the row
inside_small : (j : Kind) (row : List ℕ) (k at : ℕ) (u : List ℕ) → let a = inside_put row j (k + 1) (at + 3) u in (a.0.at ≤ at + area_most) × (a.0.next ≤ k + long_most)
inside_small sea row k at u = (omega arith, omega arith)
inside_small circle row k at u = (omega arith, omega arith)
inside_small (several l) row k at u = (omega arith, omega arith)

pub area_small : (row : List ℕ) (k at : ℕ) (t : List ℕ) {a : Put} → a ≡ area_put row k at t → (a.0.at ≤ at + area_most) × (a.0.next ≤ k + long_most)
area_small row k at t d = subst⁻¹ (λ (a : Put). (a.0.at ≤ at + area_most) × (a.0.next ≤ k + long_most)) d (inside_small (kind_of (get_or row k 0)) row k at (put_in t at 3 (get_or row k 0)))

pub areas_near : (row : List ℕ) (n k at : ℕ) (t : List ℕ) → (areas_put row n k at t).0.at ≤ at + n * area_most
areas_near row n k at t = puts_near (area_put row) area_most (λ k at t. (area_small row k at t refl).0) n k at t
