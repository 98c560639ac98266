-- `entry` walks a time, a sign, and a value whose least hangs on the sign.
use mathlib.Core.Path.{ap, ◌∙◌}
use mathlib.Core.Bool.{true}
use Rattle.walk.specs.Reading.{ranged}
use Rattle.walk.specs.Walk.{Walk, seen}
use Rattle.tide.specs.Steps.{level_read}
use Rattle.tide.specs.Tide.{least_of}
use Rattle.tide.proofs.records.entry.Goals as goal

pub returns : goal.returns
returns c =
    let s = c.args.s.now in
    let sign = c.num-sign.ensures.0 in
    c.num.ensures.0 ∙ ap (λ lo. ranged s 10 true lo 1_023 4 (seen c.num-sign.result)) c.least.ensures
    ∙ ap (λ (r : Walk). ranged s 10 true (least_of r.v) 1_023 4 r) sign ∙ ap (λ (r : Walk). level_read s r) c.time.ensures.0
