-- `longitude` judges the number where it is there, else the bits that there are.
use mathlib.Core.List.{[]}
use Rattle.walk.specs.Pieces.{piecewise}
use Rattle.walk.specs.Walk.{seen}
use Rattle.walk.specs.Laws.Parts.{group_whole, group_cut}
use Rattle.notice_fields.specs.Parts.{angle, longitude_bits}
use Rattle.notice_fields.proofs.parts.longitude.Goals as goal

pub returns-then-holds : goal.returns-then-holds
returns-then-holds c =
    let a = c.args in
    group_whole a.s.now (seen a.w) longitude_bits (piecewise (angle 8 180) []) c.holds.ensures c.if-holds.true c.judged_longitude.ensures c.get.ensures

pub returns : goal.returns
returns c =
    let a = c.args in
    group_cut a.s.now (seen a.w) longitude_bits (piecewise (angle 8 180) []) c.holds.ensures c.if-holds.false c.group.ensures c.cut_angle.ensures
