-- `at`: the bits that there are, as a number.
use Rattle.std.proofs.Common.{ap, ◌∙◌}
use Rattle.bits.specs.Answers.{got}
use Rattle.walk.specs.Pieces.{unpieced}
use Rattle.walk.proofs.pieces.Pieces.at.Goals as goal

pub returns : goal.returns
returns c =
    let a = c.args in
    c.of.ensures ∙ ap (unpieced c.bits_there-n.result) c.get.ensures ∙ ap (λ n. unpieced n (got a.s.now a.at n)) c.bits_there-n.ensures
