-- `time` judges the number where it is there, else the bits that there are.
use mathlib.Core.List.{[]}
use Rattle.walk.specs.Pieces.{piecewise}
use Rattle.walk.specs.Walk.{seen}
use Rattle.walk.specs.Laws.Parts.{group_whole, group_cut}
use Rattle.notice_fields.specs.Parts.{moment}
use Rattle.notice_fields.proofs.parts.time.Goals as goal

pub returns-then-holds : goal.returns-then-holds
returns-then-holds c =
    let a = c.args in
    group_whole a.s.now (seen a.w) 21 (piecewise moment []) c.holds.ensures c.if-holds.true c.judged_time.ensures c.get.ensures

pub returns : goal.returns
returns c =
    let a = c.args in
    group_cut a.s.now (seen a.w) 21 (piecewise moment []) c.holds.ensures c.if-holds.false c.group.ensures c.cut_moment.ensures
