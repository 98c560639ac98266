-- `stands` has an arm for each name that every area has; any other number is one of its shape, or finds nothing.
use mathlib.Core.Path.{refl, ◌∙◌}
use lib.Dec.{lit≤}
use Rattle.format.specs.Laws.Spots.{Unnamed}
use Rattle.area.specs.Shapes.{kind_of}
use Rattle.area.specs.Laws.Correction.{common_found, not_every}
use Rattle.area.proofs.correcting.stands.Goals as goal

pub returns-in-1 : goal.returns-in-1
returns-in-1 c = let a = c.args in (common_found (kind_of a.kind) a.field 1 c.in-1.is refl, lit≤ tt)

pub returns-in-2 : goal.returns-in-2
returns-in-2 c = let a = c.args in (common_found (kind_of a.kind) a.field 2 c.in-2.is refl, lit≤ tt)

pub returns-in-3 : goal.returns-in-3
returns-in-3 c = let a = c.args in (common_found (kind_of a.kind) a.field 3 c.in-3.is refl, lit≤ tt)

pub returns-in-4 : goal.returns-in-4
returns-in-4 c = let a = c.args in (common_found (kind_of a.kind) a.field 4 c.in-4.is refl, lit≤ tt)

pub returns-in-5 : goal.returns-in-5
returns-in-5 c = let a = c.args in (common_found (kind_of a.kind) a.field 5 c.in-5.is refl, lit≤ tt)

pub returns-in-6 : goal.returns-in-6
returns-in-6 c = let a = c.args in (common_found (kind_of a.kind) a.field 6 c.in-6.is refl, lit≤ tt)

pub returns-in-7 : goal.returns-in-7
returns-in-7 c = let a = c.args in (common_found (kind_of a.kind) a.field 7 c.in-7.is refl, lit≤ tt)

pub returns-in-8 : goal.returns-in-8
returns-in-8 c = let a = c.args in (common_found (kind_of a.kind) a.field 8 c.in-8.is refl, lit≤ tt)

pub returns-in-9 : goal.returns-in-9
returns-in-9 c = let a = c.args in (common_found (kind_of a.kind) a.field 9 c.in-9.is refl, lit≤ tt)

pub returns-in-10 : goal.returns-in-10
returns-in-10 c = let a = c.args in (common_found (kind_of a.kind) a.field 10 c.in-10.is refl, lit≤ tt)

pub returns-in-11 : goal.returns-in-11
returns-in-11 c = let a = c.args in (common_found (kind_of a.kind) a.field 11 c.in-11.is refl, lit≤ tt)

pub returns-in_default : goal.returns-in_default
unfolding Unnamed
returns-in_default c =
    let a = c.args in
    let (there, slim) = c.own.ensures in
    (not_every (kind_of a.kind) a.field c.in_default.in_default-own.rest ∙ there, slim)
