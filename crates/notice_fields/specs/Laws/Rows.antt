-- What is stored of an area in a row: one point more, and by its kind what it holds. Assumes nothing.
use Rattle.std.specs.Prelude.{ℕ, suc, ◌+◌, ◌*◌, ◌≡◌, List, [], ◌∷◌, ◌++◌, length, set}
use Rattle.std.proofs.Common.{sym, ap, ap₂, ◌∙◌, add-one, arith, length-append}
use Rattle.std.proofs.lemmas.List.Edits.{sets}
use Rattle.walk.specs.Groups.{repeat_end}
use Rattle.walk.specs.Laws.Stored.{sets_on, stored_turn, even_end}
use Rattle.bits.specs.Answers.{got}
use Rattle.notice_fields.specs.Areas.{Kind, sea, circle, several, least_of, kind_of}
use Rattle.notice_fields.specs.Standing.{point_at, points_at, inside_at, area_at}
use Rattle.notice_fields.specs.Laws.Kinds.{kind_sea, kind_circle, kind_several}
use Rattle.notice_fields.specs.Parts.{latitude_bits, longitude_bits, point_bits}
use Rattle.notice_fields.specs.Laws.Shapes.{points_long}

-- one point more
pub points_turn : (s row : List ℕ) {now : List ℕ} (k at j : ℕ) {a b i : ℕ} → i ≡ j + 1 → a ≡ got s (at + j * point_bits) latitude_bits → b ≡ got s (at + j * point_bits + latitude_bits) longitude_bits → now ≡ sets row k (points_at s j at)
    → set (set now (k + j * 2) a) (k + j * 2 + 1) b ≡ sets row k (points_at s i at)
points_turn s row {now} k at j {a} {b} is x y e =
    let i = k + j * 2 in
    let here : i ≡ k + length (points_at s j at) = ap (k +◌) (sym (points_long s j at)) in
    let to : at + j * point_bits ≡ repeat_end j (λ at. point_bits) at = sym (even_end point_bits j at) in
    stored_turn row k (point_at s) (λ at. point_bits) at j i is here e (ap (λ n. set (set now i a) n b) (add-one i) ∙ ap₂ (λ a b. sets now i (a ∷ b ∷ [])) x y ∙ ap (λ p. sets now i (point_at s p)) to)

-- an area's kind a is stored, and then what it holds
module _ (s row : List ℕ) (k at : ℕ) {a : ℕ} (kind : a ≡ got s at 3) where
  under_kind : (is : Kind) → kind_of a ≡ is → {t : List ℕ} → t ≡ sets (set row k a) (k + 1) (inside_at is s (at + 3)) → t ≡ sets row k (area_at s at)
  under_kind is e {t} d =
      d ∙ ap (λ i. sets (set row k a) i (inside_at is s (at + 3))) (add-one k)
      ∙ ap (λ is. sets row k (a ∷ inside_at is s (at + 3))) (sym e)
      ∙ ap (λ a. sets row k (a ∷ inside_at (kind_of a) s (at + 3))) kind

  long : (is : Kind) → kind_of a ≡ is → length (area_at s at) ≡ suc (length (inside_at is s (at + 3)))
  long is e = ap (λ a. suc (length (inside_at (kind_of a) s (at + 3)))) (sym kind) ∙ ap (λ is. suc (length (inside_at is s (at + 3)))) e

  pub sea_long : a ≡ 0 → length (area_at s at) ≡ 2
  sea_long e = long sea (kind_sea e)

  pub circle_long : a ≡ 3 → length (area_at s at) ≡ 5
  circle_long e = long circle (kind_circle e) ∙ ap suc (length-append (points_at s 1 (at + 3)) _ ∙ omega (arith, points_long s 1 (at + 3)))

  pub several_long : {n : ℕ} → (a ≡ 0 → ⊥) → (a ≡ 3 → ⊥) → n ≡ got s (at + 3) 4 → length (area_at s at) ≡ 2 + n * 2
  several_long z o x = long (several (least_of a)) (kind_several z o) ∙ omega (arith, points_long s (got s (at + 3) 4) (at + 3 + 4), x)

  pub sea_stored : {b : ℕ} → a ≡ 0 → b ≡ got s (at + 3) 8 → set (set row k a) (k + 1) b ≡ sets row k (area_at s at)
  sea_stored e x = under_kind sea (kind_sea e) (ap (set (set row k a) (k + 1)) x)

  pub circle_stored : {t : List ℕ} {b c : ℕ} → a ≡ 3 → t ≡ sets (set row k a) (k + 1) (points_at s 1 (at + 3)) → b ≡ got s (at + 3 + point_bits) 10 → c ≡ got s (at + 3 + point_bits + 10) 2
      → set (set t (k + 3) b) (k + 4) c ≡ sets row k (area_at s at)
  circle_stored {t} {b} {c} e d x y =
      let three : k + 3 ≡ k + 1 + length (points_at s 1 (at + 3)) = omega (arith, points_long s 1 (at + 3)) in
      let four : k + 4 ≡ suc (k + 3) = omega arith in
      under_kind circle (kind_circle e)
      (ap (λ i. set (set t (k + 3) b) i c) four
      ∙ ap (λ l. sets l (k + 3) (b ∷ c ∷ [])) d
      ∙ sets_on (set row k a) (k + 1) (points_at s 1 (at + 3)) (b ∷ c ∷ []) three
      ∙ ap₂ (λ b c. sets (set row k a) (k + 1) (points_at s 1 (at + 3) ++ (b ∷ c ∷ []))) x y)

  pub several_stored : {t : List ℕ} {n : ℕ} → (a ≡ 0 → ⊥) → (a ≡ 3 → ⊥) → n ≡ got s (at + 3) 4 → t ≡ sets (set (set row k a) (k + 1) n) (k + 2) (points_at s n (at + 7)) → t ≡ sets row k (area_at s at)
  several_stored {t} {n} z o x d =
      let two : k + 2 ≡ suc (k + 1) = omega arith in
      let seven : at + 7 ≡ at + 3 + 4 = omega arith in
      under_kind (several (least_of a)) (kind_several z o)
      (d ∙ ap₂ (λ i p. sets (set (set row k a) (k + 1) n) i (points_at s n p)) two seven ∙ ap (λ n. sets (set row k a) (k + 1) (n ∷ points_at s n (at + 3 + 4))) x)
