-- Walking over areas is a stretch of reading: a point, what an area holds by its kind, an area, and all of them, by the laws on counted groups. Assumes nothing.
use Rattle.std.specs.Prelude.{ℕ, suc, ◌+◌, ◌*◌, ◌<◌, ◌^◌, ◌≡◌, false, cond, List, [], ◌∷◌, eqb}
use Rattle.std.proofs.Math.Path.{refl}
use Rattle.std.proofs.Common.{sym, ap, ◌∙◌, append-nil, lit<, lit≤}
use Rattle.bits.specs.Answers.{got}
use Rattle.format.specs.Groups.{repeat}
use Rattle.walk.specs.Groups.{single, repeat_walked, repeat_at}
use Rattle.walk.specs.Laws.Along.{Along, stay}
use Rattle.walk.specs.Laws.Groups.{Stretch, valued, number, parted as Groups·parted, guard, follows, decides, repeats, at_most, evenly, counts_evenly, walk_turn}
use Rattle.walk.specs.Reading.{ranged}
use Rattle.walk.specs.Walk.{Walk}
use Rattle.notice_fields.specs.Areas.{Kind, sea, circle, several, kind_of, inside, area, areas}
use Rattle.notice_fields.specs.Parts.{parted, angle, latitude_bits, longitude_bits, point_bits}
use Rattle.notice_fields.specs.Terms.{our_point, point}
use Rattle.notice_fields.specs.PartsSteps.{latitude_read, longitude_read}
use Rattle.notice_fields.specs.Standing.{point_at, inside_at, inside_wide, inside_most, area_at, area_wide, area_most, areas_at}
use Rattle.notice_fields.specs.Steps.{Opened, opened_as, closed_as, point_step, inside_step, area_step, areas_walked}
use Rattle.notice_fields.specs.Laws.PartsWalking.{latitude_parts, longitude_parts}

module _ (s : List ℕ) where
  pub latitude_field : Stretch s (parted latitude_bits (angle 7 90)) (λ at. got s at latitude_bits ∷ []) (λ at. latitude_bits) latitude_bits (single (latitude_read s))
  latitude_field = Groups·parted s latitude_bits (lit< tt) (lit≤ tt) latitude_parts

  pub longitude_field : Stretch s (parted longitude_bits (angle 8 180)) (λ at. got s at longitude_bits ∷ []) (λ at. longitude_bits) longitude_bits (single (longitude_read s))
  longitude_field = Groups·parted s longitude_bits (lit< tt) (lit≤ tt) longitude_parts

  pub a_point_walked : Stretch s point (point_at s) (λ at. point_bits) point_bits (point_step s)
  a_point_walked = follows latitude_field (follows longitude_field guard)

  an_inside : (k : Kind) → Stretch s (inside our_point k) (inside_at k s) (inside_wide k s) inside_most (inside_step s k)
  unfolding opened_as closed_as repeat repeat_at repeat_walked
  an_inside sea = at_most inside_most (lit≤ tt) (number s 8 (lit< tt) (lit≤ tt) 0 255)
  an_inside circle = at_most inside_most (lit≤ tt) (follows (evenly a_point_walked 1) (follows (number s 10 (lit< tt) (lit≤ tt) 0 1_023) (number s 2 (lit< tt) (lit≤ tt) 0 3)))
  an_inside (several least) = counts_evenly s 4 15 (lit< tt) (lit≤ tt) least 15 refl a_point_walked

  an_area : Stretch s (area our_point) (area_at s) (area_wide s) area_most (area_step s)
  an_area = decides s 3 (lit< tt) (lit≤ tt) 0 4 inside_most (λ k l. an_inside (kind_of k))

  pub areas_along : (n : ℕ) (r : Walk) → r.at + n * area_most < 2 ^ 64 → Along s (areas our_point n) (λ f. f) r (areas_at s n r.at) (areas_walked s n r)
  areas_along n r reach = valued (append-nil (areas_at s n r.at)) ((repeats an_area n).on (λ w. w) r reach (λ w e. stay))

-- ---- turns of the loops

-- a point, with n more behind it
pub point_turn : (s : List ℕ) (next : Walk → Walk) (n : ℕ) {m : ℕ} (r : Walk) {q p : Walk} → m ≡ suc n → q ≡ latitude_read s r → p ≡ longitude_read s q
    → repeat_walked m (point_step s) next r ≡ cond (eqb p.code 0) (repeat_walked n (point_step s) next p) p
point_turn s next n r e d f = walk_turn (point_step s) next n r e ∙ sym (ap (λ (p : Walk). cond (eqb p.code 0) (repeat_walked n (point_step s) next p) p) (f ∙ ap (λ q. longitude_read s q) d))

-- an area, with n more behind it, up to its points
pub area_turn : (s : List ℕ) (n : ℕ) {m : ℕ} (r : Walk) {q : Walk} {a : Opened} → m ≡ suc n → q ≡ ranged s 3 false 0 4 4 r → a ≡ opened_as (kind_of q.v) s q
    → areas_walked s m r ≡ repeat_walked a.points (point_step s) (λ w. areas_walked s n (closed_as (kind_of q.v) s w)) a.walk
area_turn s n r {q} e d f =
    walk_turn (area_step s) (λ w. w) n r e ∙ sym (ap (λ (q : Walk). inside_step s (kind_of q.v) (areas_walked s n) q) d)
    ∙ sym (ap (λ (a : Opened). repeat_walked a.points (point_step s) (λ w. areas_walked s n (closed_as (kind_of q.v) s w)) a.walk) f)
