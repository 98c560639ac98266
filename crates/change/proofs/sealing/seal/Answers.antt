-- `seal` stamps the last byte.
use mathlib.Core.Path.{ap, ◌∙◌}
use Rattle.format.specs.Sealing.{stamped}
use Rattle.format.specs.Laws.Sealing.{stamp_last}
use Rattle.change.proofs.sealing.seal.Goals as goal

pub returns : goal.returns
returns c =
    let a = c.args in
    c.stamp.ensures ∙ ap (λ n. stamped n a.buf.now) c.saturating_sub-n.ensures ∙ stamp_last a.buf.now
