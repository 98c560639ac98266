-- `head` walks the codes and the count.
use Rattle.std.proofs.Common.{ap, ◌∙◌, false}
use Rattle.walk.specs.Reading.{ranged}
use Rattle.walk.specs.Walk.{Walk}
use Rattle.tide.proofs.reading.head.Goals as goal

pub returns : goal.returns
returns c =
    let s = c.args.s.now in
    let one = c.code.ensures ∙ ap (λ (r : Walk). ranged s 8 false 0xE4 0xE4 2 r) c.begin.ensures in
    let two = c.code-kind.ensures ∙ ap (λ (r : Walk). ranged s 3 false 1 1 2 r) one in
    let three = c.code-2.ensures ∙ ap (λ (r : Walk). ranged s 1 false 0 0 2 r) two in
    (c.decide.ensures.0 ∙ ap (λ (r : Walk). ranged s 9 false 1 511 4 r) three, c.decide.ensures.1)
