-- The report with one field changed has the values with that one changed, and its fields stand where `spots` says. Assumes nothing.
use Rattle.std.specs.Prelude.{◌≡◌, refl, cond, [], ◌∷◌, ℕ, ◌<◌, ◌^◌, eqb, set}
use Rattle.std.proofs.Common.{sym, ◌∙◌, lit≤}
use Rattle.format.specs.Fmt.{spot, found}
use Rattle.walk.specs.Sign.{int_of, spell_of}
use Rattle.walk.specs.Laws.Sign.{spell_int}
use Rattle.format.specs.Laws.Spots.{spots_along, spot_along, each_at, set_each, kept_entry, spelled_entry}
use Rattle.distress.specs.Changed.{spot_of, changed}
use Rattle.distress.specs.Report.{report, reports, values_of}
use Rattle.distress.specs.declared.reading.Report.{Report}

pub spotted : (r : Report) (i : ℕ) → spot reports.fmt [] (values_of r) i ≡ spot_of i
unfolding reports report values_of spots_along
spotted r i = spot_along reports.fmt (values_of r) i

-- The changed record has the changed list of values.
pub changed_values : (r : Report) (i v p w : ℕ) → spot_of i ≡ found p w → v < 2 ^ w → values_of (changed i v r) ≡ set (values_of r) i v
unfolding values_of changed each_at
changed_values r i v p w e l =
    let east = spelled_entry (spell_of (2 ^ 25)) (int_of (2 ^ 25)) spot_of i v e l 2 48 25 refl (spell_int (2 ^ 25) v (lit≤ tt) refl) r.longitude in
    let north = spelled_entry (spell_of (2 ^ 24)) (int_of (2 ^ 24)) spot_of i v e l 3 73 24 refl (spell_int (2 ^ 24) v (lit≤ tt) refl) r.latitude in
    let code = kept_entry spot_of i v e 0 0xBDC1 refl in
    let fill = kept_entry spot_of i v e 10 0 refl in
    let f : ℕ → ℕ → ℕ = λ k x. cond (eqb i k) v x in
    (λ y. code y ∷ f 1 r.mmsi ∷ east y ∷ north y ∷ f 4 r.day ∷ f 5 r.hour ∷ f 6 r.minute ∷ f 7 r.speed ∷ f 8 r.course ∷ f 9 r.kind ∷ fill y ∷ [])
    ∙ sym (set_each i v (values_of r))
