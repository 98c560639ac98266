-- The notice with one field changed has the values with that one changed: what may be corrected is no count, no kind and no text, so the row has as many numbers as before. Assumes nothing.
use Rattle.std.specs.Prelude.{◌≡◌, refl, Bool, true, false, cond, List, [], ◌∷◌, ◌++◌, ℕ, zero, suc, ◌-◌, ◌<◌, leb, ltb, length, drop, get_or, set}
use Rattle.std.proofs.Common.{sym, ap, ◌∙◌, subst, arith, leb-true, leb-false, length-append, length-drop, length-set, take_at}
use Rattle.std.proofs.Math.ListN.{get_or-append}
use Rattle.std.proofs.lemmas.List.{set-append_left}
use Rattle.bits.specs.Bits.{Bytes}
use Rattle.format.specs.Fmt.{end, Spot, none, found, spot}
use Rattle.format.specs.Laws.Correct.{none_clash}
use Rattle.format.specs.Laws.Past.{Past, past_filled, past_found, filled_set}
use Rattle.format.specs.Laws.Spots.{spots_along, spot_along, Unnamed, unnamed}
use Rattle.format.specs.Laws.Groups.{told_exact, exact_told}
use Rattle.notice_fields.specs.Laws.Instances.{some_areas}
use Rattle.notice_fields.specs.Row.{areas_long, areas_told}
use Rattle.notice_fields.specs.Spots.{area_spots}
use Rattle.notice_fields.proofs.Laws.Spots.{areas_spots}
use Rattle.notice.specs.Changed.{spots, spot_of}
use Rattle.notice_fields.specs.Terms.{Point, Terms}
use Rattle.notice.specs.Notice.{text, rest, notice}
use Rattle.notice.specs.Record.{Whole, headed, texted, values_of}
use Rattle.notice.specs.declared.reading.Notice.{Notice}
use Rattle.notice.specs.Laws.Listed.{two}

-- a row of the numbers that its counts and kinds ask for, and a text of bytes
abbrev pub Lent : Whole → Type 0
Lent x = (areas_long x.0.count x.1.0 ≡ length x.1.0) × Bytes x.1.1

-- ---- where fields stand

-- the head's, the same whatever follows
pub head_stands : (terms : Terms) (r : Notice) (us : List ℕ) (i : ℕ) → i < 8 → spot (notice terms) [] (headed r us) i ≡ get_or spots i none
unfolding notice spots_along
head_stands terms r us i l =
    let before = r.count ∷ r.expiry ∷ r.subtype ∷ r.kind ∷ r.year ∷ r.serial ∷ r.station ∷ r.source ∷ [] in
    spot_along (notice terms) (headed r us) i ∙ get_or-append spots (spots_along (rest terms r.count) before us 63) none i l

-- a number that names none of them is one behind it, or finds nothing
pub not_head : (i : ℕ) (x : Spot) → Unnamed Unit spots 0 i → cond (ltb i 8) (get_or spots i none) x ≡ cond (ltb i 8) none x
not_head i x z = ap (λ y. cond (ltb i 8) y x) (unnamed spots i z)

-- nothing that may be corrected stands behind the areas
unplaced : (l : List Spot) (i : ℕ) → get_or (l ++ (none ∷ none ∷ [])) i none ≡ get_or l i none
unplaced [] zero = refl
unplaced [] (suc zero) = refl
unplaced [] (suc (suc i)) = refl
unplaced (x ∷ l) zero = refl
unplaced (x ∷ l) (suc i) = unplaced l i

-- Which fields of a notice may be corrected, and where they stand: those of the paper's table, whatever the notice.
pub spotted : (terms : Terms) (x : Whole) (i : ℕ) → spot (notice terms) [] (values_of x) i ≡ spot_of terms.point x i
unfolding notice values_of spots_along
spotted terms x i =
    let r = x.0 in
    let before = r.count ∷ r.expiry ∷ r.subtype ∷ r.kind ∷ r.year ∷ r.serial ∷ r.station ∷ r.source ∷ [] in
    let p = terms.point in
    let places = area_spots p.latitude_bits p.longitude_bits r.count x.1.0 63 in
    spot_along (notice terms) (values_of x) i
    ∙ ap (λ l. get_or (spots ++ l) i none) (areas_spots p r.count x.1.0 (text terms end) before (texted x.1.1) 63 (none ∷ none ∷ []) (λ h at. refl))
    ∙ unplaced (spots ++ places) i

-- a text may not be corrected
text_kept : (terms : Terms) (t h : List ℕ) (k : ℕ) → spot (text terms end) h (texted t) k ≡ none
unfolding spot
text_kept terms t h zero = refl
text_kept terms t h (suc zero) = refl
text_kept terms t h (suc (suc k)) = refl

-- ---- a number of the row

-- what opens a longer row exactly is an exact row
opening : (p : Point) (n : ℕ) (row us : List ℕ) → areas_long n (row ++ us) ≡ length row → areas_long n row ≡ length row
opening p n row us e =
    let all = row ++ us in
    let a = areas_long n all in
    let is : areas_told n all ≡ row = (some_areas p n).fits all (omega (arith, e, length-append row us)) ∙ take_at row us a (sym e) in
    subst (λ l. areas_long n l ≡ length l) is (exact_told (some_areas p n) all)

module _ (terms : Terms) (n : ℕ) (h row t : List ℕ) (j v : ℕ) {p w : ℕ} (exact : areas_long n row ≡ length row) (there : spot (rest terms n) h (row ++ texted t) j ≡ found p w) where
  behind : Past (rest terms n) row (text terms end)
  behind = subst (λ l. Past (rest terms n) l (text terms end)) (told_exact (some_areas terms.point n) row exact) ((some_areas terms.point n).past row (text terms end))

  -- it is one,
  in_row : j < length row
  in_row = go (leb (length row) j) refl
    where
      go : (x : Bool) → leb (length row) j ≡ x → j < length row
      go true e = let (h', q, z) = past_found (rest terms n) (text terms end) h row (texted t) j behind (leb-true (length row) j e) there in none_clash (sym (text_kept terms t h' (j - length row)) ∙ z)
      go false e = leb-false (length row) j e

  -- and the changed row has as many
  pub row_set : (areas_long n (set row j v) ≡ length (set row j v)) × (set (row ++ texted t) j v ≡ set row j v ++ texted t)
  row_set =
      let all = set (row ++ texted t) j v in
      let is : all ≡ set row j v ++ texted t = set-append_left row (texted t) j v in_row in
      let (enough, y) = (some_areas terms.point n).filled all (text terms end) (filled_set (rest terms n) h (row ++ texted t) j v (past_filled (rest terms n) (text terms end) row (texted t) behind tt) there) in
      let (a, b, last) = two terms (drop (areas_long n all) all) y in
      let long : areas_long n all ≡ length (set row j v) =
      omega (arith, enough, ap length last, length-drop (areas_long n all) all, length-set (row ++ texted t) j v, length-append row (texted t), length-set row j v) in
      (opening terms.point n (set row j v) (texted t) (ap (areas_long n) (sym is) ∙ long), is)
