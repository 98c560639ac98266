-- The packet with one field changed has the values with that one changed, and its fields stand where `spots` says. Assumes nothing.
use Rattle.std.specs.Prelude.{◌≡◌, ℕ, cond, List, [], ◌∷◌, length, ◌==◌, slice_set, refl}
use Rattle.std.proofs.Common.{sym, ◌∙◌}
use Rattle.bits.specs.Bits.{value_of, bits_of}
use Rattle.format.specs.Fmt.{spot, found}
use Rattle.format.specs.Laws.Spots.{spots_along, spot_along, each_at, set_each, kept_entry}
use Rattle.packet.specs.Changed.{spot_of, changed}
use Rattle.packet.specs.Packet.{version, packet, packets, values_of}
use Rattle.packet.specs.declared.reading.Packet.{Packet}

pub spotted : (r : Packet × List ℕ) (i : ℕ) → spot packets.fmt [] (values_of r) i ≡ spot_of i
unfolding packets packet values_of spots_along
spotted r i = spot_along packets.fmt (values_of r) i

-- The changed record has the changed list of values.
pub changed_values : (x : Packet × List ℕ) (i v p w : ℕ) → spot_of i ≡ found p w → values_of (changed i v x) ≡ slice_set (values_of x) i v
unfolding values_of changed each_at
changed_values x i v p w e =
    let r = x.0 in
    let c = x.1 in
    let kept = kept_entry spot_of i v e in
    let f : ℕ → ℕ → ℕ = λ k x. cond (i == k) v x in
    (λ y. kept 0 0xE1 refl y
    ∷ kept 1 version refl y
    ∷ f 2 r.language
    ∷ f 3 r.number
    ∷ f 4 r.total
    ∷ f 5 r.own
    ∷ kept 6 (length c) refl y
    ∷ kept 7 (value_of (bits_of c)) refl y
    ∷ [])
    ∙ sym (set_each i v (values_of x))
