-- The frame GLJC with one field changed has the values with that one changed, and its fields stand where `spots` says. Assumes nothing.
use Rattle.std.specs.Prelude.{◌≡◌, refl, cond, [], ◌∷◌, ℕ, eqb, set}
use Rattle.std.proofs.Common.{sym, ◌∙◌}
use Rattle.format.specs.Fmt.{spot, found}
use Rattle.format.specs.Laws.Spots.{spots_along, spot_along, each_at, set_each, kept_entry}
use Rattle.gljc.specs.Changed.{spot_of, changed}
use Rattle.gljc.specs.Gljc.{letters, gljc, gljcs, values_of}
use Rattle.gljc.specs.declared.reading.Gljc.{Gljc}

pub spotted : (r : Gljc) (i : ℕ) → spot gljcs.fmt [] (values_of r) i ≡ spot_of i
unfolding gljcs gljc values_of spots_along
spotted r i = spot_along gljcs.fmt (values_of r) i

-- The changed record has the changed list of values.
pub changed_values : (r : Gljc) (i v p w : ℕ) → spot_of i ≡ found p w → values_of (changed i v r) ≡ set (values_of r) i v
unfolding values_of changed each_at
changed_values r i v p w e =
    let kept = kept_entry spot_of i v e in
    let f : ℕ → ℕ → ℕ = λ k x. cond (eqb i k) v x in
    (λ y. kept 0 0x24 refl y ∷ kept 1 letters refl y ∷ kept 2 12 refl y ∷ f 3 r.address ∷ f 4 r.minutes ∷ []) ∙ sym (set_each i v (values_of r))
