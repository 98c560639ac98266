-- `of_shape` goes by the shape's variant: the signed numbers fit, so they stand as they are.
use mathlib.Core.Path.{sym, ap, ◌∙◌}
use native.Mathlib.Omega.{arith}
use lib.IntN.{pos}
use mir.Syntax.{w32}
use mir.ValLaws.{to_z_pos, to_z-of_z}
use Rattle.c_rows.specs.Area.{four_of}
use Rattle.c_rows.proofs.areas.of_shape.Goals as goal

pub returns-in-Circle : goal.returns-in-Circle
returns-in-Circle c =
    let b = c.in-Circle.b in
    let f = c.struct_told-in-Circle-1.given in
    let longitude = to_z-of_z w32 b.longitude (record { sfits = f.0.1 }) in
    let latitude = to_z-of_z w32 b.latitude (record { sfits = f.1.0.1 }) in
    let radius = to_z_pos w32 b.radius (omega arith) in
    (λ i. record { longitude = longitude i; latitude = latitude i; third = radius i; fourth = pos 0 }) ∙ ap four_of (sym c.in-Circle.is)

pub returns-in-Rectangle : goal.returns-in-Rectangle
returns-in-Rectangle c =
    let b = c.in-Rectangle.b in
    let f = c.struct_told-in-Rectangle-4-1.given in
    let longitude = to_z-of_z w32 b.longitude (record { sfits = f.0.1 }) in
    let latitude = to_z-of_z w32 b.latitude (record { sfits = f.1.0.1 }) in
    let third = to_z-of_z w32 b.second_longitude (record { sfits = f.1.1.0.1 }) in
    let fourth = to_z-of_z w32 b.second_latitude (record { sfits = f.1.1.1.0.1 }) in
    (λ i. record { longitude = longitude i; latitude = latitude i; third = third i; fourth = fourth i }) ∙ ap four_of (sym c.in-Rectangle.is)
