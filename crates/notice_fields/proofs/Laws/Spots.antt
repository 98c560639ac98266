-- The areas' numbers stand where the paper's table says: along an area's points, by its kind, and over the areas, each in front of what follows it. Assumes nothing.
use Prim.Native.Nat.{ℕ, zero, suc, ◌+◌, ◌*◌}
use Rattle.std.specs.Prelude.{◌≡◌, Bool, cond, List, ◌∷◌, ◌++◌, eqb}
use Rattle.std.proofs.Math.Path.{sym, ap}
use Rattle.std.proofs.Common.{◌∙◌, append_assoc, suc-mul}
use Rattle.std.proofs.Math.Bool.{true, false}
use native.Mathlib.Omega.{arith}
use Rattle.std.proofs.Math.ListN.{drop, get_or}
use Rattle.std.proofs.Math.Seq.{get_or-drop}
use Rattle.format.specs.Fmt.{Fmt, Spot, none, found}
use Rattle.format.specs.Laws.Spots.{spots_along}
use Rattle.format.specs.Groups.{repeat, repeat_told}
use Rattle.notice_fields.specs.Areas.{sea, circle, several, least_of, kind_of, inside, areas}
use Rattle.notice_fields.specs.Terms.{Point, point_of}
use Rattle.notice_fields.specs.Row.{inside_long, area_long, point_told, inside_told, area_told, areas_told}
use Rattle.notice_fields.specs.Spots.{point_spots, area_spots}

-- behind n points and one more
beyond : (at n w : ℕ) → at + w + n * w ≡ at + suc n * w
beyond at n w = omega (arith, suc-mul n w)

module _ (p : Point) where
  abbrev lat : ℕ
  lat = p.latitude_bits

  abbrev lon : ℕ
  lon = p.longitude_bits

  -- n points, and what follows them
  points_spots : (n : ℕ) (row : List ℕ) (f : Fmt) (h vs : List ℕ) (at : ℕ) (zs : List Spot) → ((h : List ℕ) → spots_along f h vs (at + n * (lat + lon)) ≡ zs)
      → spots_along (repeat n (point_of p) f) h (repeat_told (λ row. 2) n point_told row ++ vs) at ≡ point_spots lat lon n at ++ zs
  unfolding repeat repeat_told point_spots spots_along
  points_spots zero row f h vs at zs rest = let e : at ≡ at + 0 * (lat + lon) = omega arith in ap (spots_along f h vs) e ∙ rest h
  points_spots (suc n) row f h vs at zs rest =
      let here : at + 0 ≡ at = omega arith in
      let beside : at + lat + 0 ≡ at + lat = omega arith in
      let next : at + lat + lon ≡ at + (lat + lon) = omega arith in
      let behind : at + (lat + lon) + n * (lat + lon) ≡ at + suc n * (lat + lon) = beyond at n (lat + lon) in
      let more = drop 2 row in
      let h' = get_or (drop 1 row) 0 0 ∷ get_or row 0 0 ∷ h in
      let on : spots_along (repeat n (point_of p) f) h' (repeat_told (λ row. 2) n point_told more ++ vs) (at + lat + lon) ≡ point_spots lat lon n (at + (lat + lon)) ++ zs =
      ap (spots_along (repeat n (point_of p) f) h' (repeat_told (λ row. 2) n point_told more ++ vs)) next ∙ points_spots n more f h' vs (at + (lat + lon)) zs (λ h. ap (spots_along f h vs) behind ∙ rest h) in
      λ i. found (here i) lat ∷ found (beside i) lon ∷ on i

  -- what an area of n + 1 holds behind its kind, by whether that is 0 and whether it is 3, and what follows it
  module _ (n : ℕ) (row : List ℕ) (f : Fmt) (vs : List ℕ) (zs : List Spot) (rest : (m : ℕ) (h : List ℕ) (at : ℕ) → spots_along (areas p n f) h (areas_told n (drop m row) ++ vs) at ≡ area_spots lat lon n (drop m row) at ++ zs) where
    abbrev held : Bool → Bool → ℕ → List Spot
    held x y at =
        let count = get_or row 1 0 in
        cond x (found (at + 3) 8 ∷ area_spots lat lon n (drop 2 row) (at + 11))
        (cond y (found (at + 3) lat ∷ found (at + 3 + lat) lon ∷ found (at + 3 + (lat + lon)) 10 ∷ found (at + 13 + (lat + lon)) 2 ∷ area_spots lat lon n (drop 5 row) (at + 15 + (lat + lon)))
        (none ∷ (point_spots lat lon count (at + 7) ++ area_spots lat lon n (drop (2 + count * 2) row) (at + 7 + count * (lat + lon)))))

    -- the areas behind it, from bit b on
    behind : (m : ℕ) (h : List ℕ) {a b : ℕ} → a ≡ b → spots_along (areas p n f) h (areas_told n (drop m row) ++ vs) a ≡ area_spots lat lon n (drop m row) b ++ zs
    behind m h {a} {b} e = ap (spots_along (areas p n f) h (areas_told n (drop m row) ++ vs)) e ∙ rest m h b

    inside_spots : (x y : Bool) (l : ℕ) (h : List ℕ) (at : ℕ) → let is = cond x sea (cond y circle (several l)) in let m = inside_long is (drop 1 row) in
        spots_along (inside p is (areas p n f)) h (inside_told is (drop 1 row) ++ (areas_told n (drop (suc m) row) ++ vs)) (at + 3) ≡ held x y at ++ zs
    unfolding spots_along
    inside_spots true y l h at =
        let code : at + 3 + 0 ≡ at + 3 = omega arith in
        let next : at + 3 + 8 ≡ at + 11 = omega arith in
        let on = behind 2 (get_or (drop 1 row) 0 0 ∷ h) next in
        λ i. found (code i) 8 ∷ on i
    inside_spots false true l h at =
        let latitude : at + 3 + 0 ≡ at + 3 = omega arith in
        let longitude : at + 3 + lat + 0 ≡ at + 3 + lat = omega arith in
        let radius : at + 3 + lat + lon + 0 ≡ at + 3 + (lat + lon) = omega arith in
        let unit : at + 3 + lat + lon + 10 + 0 ≡ at + 13 + (lat + lon) = omega arith in
        let next : at + 3 + lat + lon + 10 + 2 ≡ at + 15 + (lat + lon) = omega arith in
        let us = inside_told circle (drop 1 row) in
        let on = behind 5 (get_or us 3 0 ∷ get_or us 2 0 ∷ get_or us 1 0 ∷ get_or us 0 0 ∷ h) next in
        λ i. found (latitude i) lat ∷ found (longitude i) lon ∷ found (radius i) 10 ∷ found (unit i) 2 ∷ on i
    inside_spots false false l h at =
        let c = get_or row 1 0 in
        let c' = get_or (drop 1 row) 0 0 in
        let same : c' ≡ c = get_or-drop 1 row 0 0 in
        let two : suc (1 + c' * 2) ≡ 2 + c * 2 = omega (arith, same) in
        let first_point : at + 3 + 4 ≡ at + 7 = omega arith in
        let next = at + 7 + c * (lat + lon) in
        let more = areas_told n (drop (2 + c * 2) row) ++ vs in
        let on = area_spots lat lon n (drop (2 + c * 2) row) next in
        ap (none ∷◌)
        ((λ i. spots_along (repeat (same i) (point_of p) (areas p n f)) (c' ∷ h) (repeat_told (λ row. 2) (same i) point_told (drop 1 (drop 1 row)) ++ (areas_told n (drop (two i) row) ++ vs)) (first_point i))
        ∙ points_spots c (drop 1 (drop 1 row)) (areas p n f) (c' ∷ h) more (at + 7) (on ++ zs) (λ h. rest (2 + c * 2) h next)
        ∙ sym (append_assoc (point_spots lat lon c (at + 7)) on zs))

  -- all of them, in front of what has its spots wherever it stands
  pub areas_spots : (n : ℕ) (row : List ℕ) (f : Fmt) (h vs : List ℕ) (at : ℕ) (zs : List Spot) → ((h : List ℕ) (at : ℕ) → spots_along f h vs at ≡ zs)
      → spots_along (areas p n f) h (areas_told n row ++ vs) at ≡ area_spots lat lon n row at ++ zs
  unfolding repeat repeat_told area_spots spots_along
  areas_spots zero row f h vs at zs rest = rest h at
  areas_spots (suc n) row f h vs at zs rest =
      let k = get_or row 0 0 in
      let long : area_long row ≡ suc (inside_long (kind_of k) (drop 1 row)) = omega arith in
      ap (λ l. spots_along (areas p (suc n) f) h l at) (append_assoc (area_told row) (areas_told n (drop (area_long row) row)) vs)
      ∙ ap (λ m. spots_along (areas p (suc n) f) h (area_told row ++ (areas_told n (drop m row) ++ vs)) at) long
      ∙ ap (none ∷◌) (inside_spots n row f vs zs (λ m h at. areas_spots n (drop m row) f h vs at zs rest) (eqb k 0) (eqb k 3) (least_of k) (k ∷ h) at)
