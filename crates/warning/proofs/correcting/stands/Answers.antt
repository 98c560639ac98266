-- `stands` has an arm for each name that every warning has; any other number is one of its body, or finds nothing.
use mathlib.Core.Path.{refl, ◌∙◌}
use lib.Dec.{lit≤}
use Rattle.format.specs.Laws.Spots.{Unnamed}
use Rattle.warning.specs.Bodies.{kind_of}
use Rattle.warning.specs.Laws.Correction.{common_found, not_every}
use Rattle.warning.proofs.correcting.stands.Goals as goal

pub returns-in-1 : goal.returns-in-1
returns-in-1 c = let a = c.args in (common_found (kind_of a.kind) a.field 1 c.in-1.is refl, lit≤ tt)

pub returns-in-2 : goal.returns-in-2
returns-in-2 c = let a = c.args in (common_found (kind_of a.kind) a.field 2 c.in-2.is refl, lit≤ tt)

pub returns-in-3 : goal.returns-in-3
returns-in-3 c = let a = c.args in (common_found (kind_of a.kind) a.field 3 c.in-3.is refl, lit≤ tt)

pub returns-in-4 : goal.returns-in-4
returns-in-4 c = let a = c.args in (common_found (kind_of a.kind) a.field 4 c.in-4.is refl, lit≤ tt)

pub returns-in-5 : goal.returns-in-5
returns-in-5 c = let a = c.args in (common_found (kind_of a.kind) a.field 5 c.in-5.is refl, lit≤ tt)

pub returns-in-6 : goal.returns-in-6
returns-in-6 c = let a = c.args in (common_found (kind_of a.kind) a.field 6 c.in-6.is refl, lit≤ tt)

pub returns-in_default : goal.returns-in_default
unfolding Unnamed
returns-in_default c =
    let a = c.args in
    let (there, slim) = c.own.ensures in
    (not_every (kind_of a.kind) a.field c.in_default.in_default-own.rest ∙ there, slim)
