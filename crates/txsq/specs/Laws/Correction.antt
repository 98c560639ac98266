-- The frame TXSQ with one field changed has the values with that one changed, and its fields stand where `spots` says. Assumes nothing.
use Rattle.std.specs.Prelude.{◌≡◌, refl, cond, List, [], ◌∷◌, ℕ, eqb, length, set}
use Rattle.std.proofs.Common.{sym, ◌∙◌}
use Rattle.bits.specs.Bits.{field_at}
use Rattle.frame.specs.Frame.{declared}
use Rattle.format.specs.Fmt.{pad, spot, found}
use Rattle.format.specs.Laws.Spots.{spots_along, spot_along, each_at, set_each, kept_entry}
use Rattle.txsq.specs.Changed.{spot_of, changed}
use Rattle.txsq.specs.Txsq.{letters, txsq, txsqs, values_of}
use Rattle.txsq.specs.declared.reading.Txsq.{Txsq}

pub spotted : (r : Txsq × List ℕ) (i : ℕ) → spot txsqs.fmt [] (values_of r) i ≡ spot_of i
unfolding txsqs txsq values_of spots_along
spotted r i = spot_along txsqs.fmt (values_of r) i

-- The changed record has the changed list of values.
pub changed_values : (x : Txsq × List ℕ) (i v p w : ℕ) → spot_of i ≡ found p w → values_of (changed i v x) ≡ set (values_of x) i v
unfolding values_of changed each_at
changed_values x i v p w e =
    let r = x.0 in
    let c = x.1 in
    let kept = kept_entry spot_of i v e in
    let f : ℕ → ℕ → ℕ = λ k x. cond (eqb i k) v x in
    let size = r.size in
    (λ y. kept 0 0x24 refl y
    ∷ kept 1 letters refl y
    ∷ kept 2 (declared 18 (length c)) refl y
    ∷ f 3 r.address
    ∷ kept 4 0b0100 refl y
    ∷ f 5 r.category
    ∷ f 6 r.mode
    ∷ f 7 r.password
    ∷ f 8 r.receiver
    ∷ kept 9 size refl y
    ∷ f 10 r.answer
    ∷ kept 11 (field_at c 0 size) refl y
    ∷ kept 12 (field_at c size (pad size)) refl y
    ∷ [])
    ∙ sym (set_each i v (values_of x))
