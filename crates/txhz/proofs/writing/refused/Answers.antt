-- `refused` is what writing tells: closing the walk over the record says it, in a buffer of any length.
use mathlib.Core.Path.{sym, ap, ◌∙◌}
use mathlib.Core.Bool.{true}
use Rattle.walk.specs.Judging.{closing}
use Rattle.walk.specs.Walk.{seen}
use Rattle.walk.specs.Laws.Making.{closing_told}
use Rattle.txhz.specs.Txhz.{txhzs, values_of}
use Rattle.txhz.proofs.writing.refused.Goals as goal

pub returns : goal.returns
unfolding txhzs
returns c s e =
    let a = c.args in
    closing_told txhzs (values_of a.r) s c.judged.ensures (c.closes.ensures ∙ ap (λ n. closing true 35 35 n (seen c.judged.result)) (sym e))
