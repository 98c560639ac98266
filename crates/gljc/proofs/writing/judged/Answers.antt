-- `judged` walks the values in bit order: each step is a law of judging.
use mathlib.Core.List.{[], ◌∷◌}
use lib.Dec.{lit<, lit≤}
use Rattle.frame.specs.Laws.Head.{head_judged_lem}
use Rattle.walk.specs.Laws.Judging.{judge_num, judge_end}
use Rattle.gljc.specs.Gljc.{letters, gljc, values_of}
use Rattle.gljc.proofs.writing.judged.Goals as goal

pub returns : goal.returns
unfolding gljc values_of
returns c =
    let a = c.args in
    let r0 = head_judged_lem letters 12 12 _ 12 a.r.address (a.r.minutes ∷ []) (lit< tt) (lit≤ tt) (lit≤ tt) (lit< tt) c.judged-w.ensures in
    judge_end (judge_num 8 (lit< tt) 0 255 (lit< tt) r0 c.value.ensures)
