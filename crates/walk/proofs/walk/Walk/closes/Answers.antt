-- `closes` is `closes_before` with nothing to follow.
use Rattle.std.proofs.Common.{ap, ◌∙◌, add-zero}
use Rattle.format.specs.Refusals.{shown}
use Rattle.walk.specs.Walk.{seen}
use Rattle.walk.specs.Judging.{made, verdict}
use Rattle.walk.specs.Laws.Making.{closing_beyond}
use Rattle.walk.proofs.walk.Walk.closes.Goals as goal

pub returns : goal.returns
returns c =
    let a = c.args in
    c.closes_before.ensures ∙ closing_beyond a.seal a.least a.most a.room 0 (seen a.self) ∙ ap (verdict (shown (seen a.self).code (seen a.self).offset) a.least a.most a.room) (add-zero (made a.seal a.self.at))
