-- `expiry` judges the number where it is there, else the bits that there are.
use mathlib.Core.Path.{ap, ◌∙◌}
use Rattle.walk.specs.Pieces.{unless_zero}
use Rattle.walk.specs.Walk.{seen}
use Rattle.walk.specs.Laws.Parts.{group_whole, group_cut}
use Rattle.notice_fields.specs.PartsSteps.{expiry_pieces}
use Rattle.notice_fields.proofs.parts.expiry.Goals as goal

pub returns-then-holds : goal.returns-then-holds
returns-then-holds c =
    let a = c.args in
    group_whole a.s.now (seen a.w) 21 expiry_pieces c.holds.ensures c.if-holds.true c.judged_expiry.ensures c.get.ensures

pub returns : goal.returns
returns c =
    let a = c.args in
    group_cut a.s.now (seen a.w) 21 expiry_pieces c.holds.ensures c.if-holds.false c.group.ensures (c.or_zero.ensures ∙ ap (unless_zero 21) c.cut_moment.ensures)
