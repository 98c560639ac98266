-- The notice with one field changed has the values with that one changed: what may be corrected is no count, no kind and no text, so the row has as many numbers as before. Assumes nothing.
use Rattle.std.specs.Prelude.{◌≡◌, refl, Bool, true, false, cond, [], ◌∷◌, ◌++◌, ℕ, ◌+◌, ◌-◌, ◌<◌, eqb, leb, length, get_or, set}
use Rattle.std.proofs.Common.{sym, ap, ◌∙◌, subst, arith, leb-true, leb-false, lit<}
use Rattle.std.proofs.Math.ListN.{get_or-append}
use Rattle.format.specs.Fmt.{none, found, spot}
use Rattle.format.specs.Laws.Past.{past_found}
use Rattle.format.specs.Laws.Spots.{each_at, set_each, each_past, each_from, kept_entry}
use Rattle.format.specs.Laws.Groups.{told_exact}
use Rattle.notice_fields.specs.Laws.Instances.{some_areas}
use Rattle.notice_fields.specs.Row.{areas_long, areas_told}
use Rattle.notice_fields.specs.Spots.{area_spots}
use Rattle.notice.specs.Changed.{spots, changed}
use Rattle.notice_fields.specs.Terms.{Terms}
use Rattle.notice.specs.Notice.{rest, notice}
use Rattle.notice.specs.Record.{Whole, headed, texted, values_of}
use Rattle.notice.specs.Laws.Correction.{Lent, spotted, row_set}

-- ---- where fields stand

-- the head's, the same in every notice
pub head_spotted : (terms : Terms) (x : Whole) (i : ℕ) → i < 8 → spot (notice terms) [] (values_of x) i ≡ get_or spots i none
head_spotted terms x i l = spotted terms x i ∙ get_or-append spots (area_spots terms.point.latitude_bits terms.point.longitude_bits x.0.count x.1.0 63) none i l

-- ---- the record

-- the row, changed or not
row_changed : (terms : Terms) (x : Whole) (i v p w : ℕ) (b : Bool) → leb 8 i ≡ b → areas_long x.0.count x.1.0 ≡ length x.1.0 → spot (notice terms) [] (values_of x) i ≡ found p w
    → let n = x.0.count in let row = cond b (set x.1.0 (i - 8) v) x.1.0 in
    (areas_told n row ++ texted x.1.1 ≡ each_at i v 8 (areas_told n x.1.0 ++ texted x.1.1)) × (areas_long n row ≡ length row)
unfolding notice values_of
row_changed terms x i v p w false k exact e = (sym (each_past i v 8 _ (leb-false 8 i k)), exact)
row_changed terms x i v p w true k exact e =
    let r = x.0 in
    let n = r.count in
    let row = x.1.0 in
    let t = texted x.1.1 in
    let j = i - 8 in
    let told : areas_told n row ≡ row = told_exact (some_areas terms.point n) row exact in
    let (h, q, there) = past_found (notice terms) (rest terms n) [] (headed r []) (areas_told n row ++ t) i refl (leb-true 8 i k) e in
    let (exact', is) = row_set terms n h row x.1.1 j v exact (subst (λ l. spot (rest terms n) h (l ++ t) j ≡ found q w) told there) in
    let back : 8 + j ≡ i = omega (arith, leb-true 8 i k) in
    (ap (◌++ t) (told_exact (some_areas terms.point n) (set row j v) exact') ∙ sym is ∙ ap (λ l. set (l ++ t) j v) (sym told) ∙ sym (each_from j v 8 (areas_told n row ++ t)) ∙ ap (λ i. each_at i v 8 (areas_told n row ++ t)) back, exact')

-- The changed record has the changed list of values.
pub changes : (terms : Terms) (x : Whole) (i v p w : ℕ) → Lent x → spot (notice terms) [] (values_of x) i ≡ found p w → (values_of (changed i v x) ≡ set (values_of x) i v) × Lent (changed i v x)
unfolding values_of changed each_at
changes terms x i v p w (exact, fine) e =
    let r = x.0 in
    let (rest, exact') = row_changed terms x i v p w (leb 8 i) refl exact e in
    let f : ℕ → ℕ → ℕ = λ k old. cond (eqb i k) v old in
    let count = kept_entry (λ i. spot (notice terms) [] (values_of x) i) i v e 7 r.count (head_spotted terms x 7 (lit< tt)) in (
      (λ y. f 0 r.source ∷ f 1 r.station ∷ f 2 r.serial ∷ f 3 r.year ∷ f 4 r.kind ∷ f 5 r.subtype ∷ f 6 r.expiry ∷ count y ∷ rest y) ∙ sym (set_each i v (values_of x)),
      (exact', fine),
    )
