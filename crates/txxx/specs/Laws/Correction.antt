-- The frame TXXX with one field changed has the values with that one changed, and its fields stand where `spots` says. Assumes nothing.
use Rattle.std.specs.Prelude.{◌≡◌, refl, cond, List, [], ◌∷◌, ℕ, ◌+◌, ◌*◌, eqb, length, get_or, set}
use Rattle.std.proofs.Common.{sym, ap, ◌∙◌, arith}
use Rattle.bits.specs.Bits.{field_at}
use Rattle.frame.specs.Frame.{declared, bytes_for}
use Rattle.frame.specs.Laws.Content.{padded}
use Rattle.format.specs.Fmt.{pad, spot, none, found}
use Rattle.format.specs.Laws.Spots.{spots_along, spot_along, each_at, set_each, kept_entry}
use Rattle.txxx.specs.Changed.{spots_by, spots, spot_of, changed}
use Rattle.txxx.specs.Txxx.{letters, txxx, txxxs, values_of}
use Rattle.txxx.specs.declared.reading.Txxx.{Txxx}

-- where each field stands hangs on the content's size alone
along : (r : Txxx × List ℕ) → spots_along txxxs.fmt [] (values_of r) 0 ≡ spots r.0.size
unfolding txxxs txxx values_of spots_along
along r =
    let l = r.0.size in
    let mark : 144 + l + pad l + 0 ≡ 144 + bytes_for l * 8 = omega (arith, padded l) in
    ap spots_by mark

pub spotted : (r : Txxx × List ℕ) (i : ℕ) → spot txxxs.fmt [] (values_of r) i ≡ spot_of r i
spotted r i = spot_along txxxs.fmt (values_of r) i ∙ ap (λ t. get_or t i none) (along r)

-- The changed record has the changed list of values.
pub changed_values : (x : Txxx × List ℕ) (i v p w : ℕ) → spot_of x i ≡ found p w → values_of (changed i v x) ≡ set (values_of x) i v
unfolding values_of changed each_at
changed_values x i v p w e =
    let r = x.0 in
    let c = x.1 in
    let kept = kept_entry (spot_of x) i v e in
    let f : ℕ → ℕ → ℕ = λ k x. cond (eqb i k) v x in
    let size = r.size in
    (λ y. kept 0 0x24 refl y
    ∷ kept 1 letters refl y
    ∷ kept 2 (declared 20 (length c)) refl y
    ∷ f 3 r.address
    ∷ f 4 r.class
    ∷ f 5 r.sender
    ∷ f 6 r.hour
    ∷ f 7 r.minute
    ∷ kept 8 size refl y
    ∷ kept 9 (field_at c 0 size) refl y
    ∷ kept 10 (field_at c size (pad size)) refl y
    ∷ f 11 r.mark
    ∷ [])
    ∙ sym (set_each i v (values_of x))
