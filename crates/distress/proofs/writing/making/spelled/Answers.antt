-- `spelled` gives a record's numbers: the position by its spelling in two's complement, all else as it is.
use mir.Syntax.{w32}
use mir.ValLaws.{to_z-of_z}
use mathlib.Core.List.{[], ◌∷◌}
use mathlib.Core.Path.{ap, ◌∙◌}
use Prim.Native.Nat.{◌^◌}
use Rattle.walk.specs.Sign.{spell_of}
use Rattle.distress.specs.Report.{values_of}
use Rattle.distress.specs.Values.{list_of}
use Rattle.distress.proofs.writing.making.spelled.Goals as goal

pub returns : goal.returns
unfolding list_of values_of
returns c =
    let a = c.args.r in
    let east = c.spelled-longitude.ensures ∙ ap (spell_of (2 ^ 25)) (to_z-of_z w32 a.longitude (record { sfits = c.struct_told-1.given.1.0.1 })) in
    let north = c.spelled-latitude.ensures ∙ ap (spell_of (2 ^ 24)) (to_z-of_z w32 a.latitude (record { sfits = c.struct_told-1.given.1.1.0.1 })) in
    λ i. 0xBDC1 ∷ a.mmsi ∷ east i ∷ north i ∷ a.day ∷ a.hour ∷ a.minute ∷ a.speed ∷ a.course ∷ a.kind ∷ 0 ∷ []
