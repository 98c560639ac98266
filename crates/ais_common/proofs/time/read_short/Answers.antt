-- `read_short` judges the number that stands there.
use mathlib.Core.Path.{ap, ◌∙◌}
use Rattle.walk.specs.Walk.{seen, onward}
use Rattle.walk.specs.Laws.Reading.{got_lt}
use Rattle.ais_common.specs.Steps.{short_judged}
use Rattle.ais_common.proofs.time.read_short.Goals as goal

pub returns : goal.returns
unfolding onward
returns c =
    let a = c.args in
    let e = c.judged_short.ensures ∙ ap (λ v. short_judged v (seen a.w)) c.get.ensures in
    (e, got_lt a.s.now a.w.at 14 (ap (λ r. r.v) e))
