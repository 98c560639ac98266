-- `walked` is the walk over the head and the records, and the end.
use mathlib.Core.Path.{ap, ◌∙◌}
use native.Mathlib.Omega.{arith}
use Rattle.walk.specs.Reading.{ended}
use Rattle.walk.specs.Walk.{Walk}
use Rattle.tide.specs.Steps.{behind}
use Rattle.tide.proofs.reading.walked.Goals as goal

pub overflow_cast-count : goal.overflow_cast-count
overflow_cast-count c = omega (arith, c.head-head.ensures.1)

pub returns : goal.returns
returns c =
    let s = c.args.s.now in
    let walk = c.end-walk.ensures ∙ ap (λ (w : Walk). ended s w) c.walk.ensures in
    ap (λ (w : Walk). record { walk = w; tide = record { count = c.head-head.result.v } }) walk ∙ ap (behind s) c.head-head.ensures.0
