-- `bits::read` meets its contract: the field is a part of the number that its bytes spell.
use Rattle.std.proofs.Common.{◌+◌, ◌/◌, ◌%◌, arith}
use Rattle.bits.specs.Laws.Window.{part_is_field}
use Rattle.bits.proofs.read.Goals as goal

pub returns : goal.returns
returns c =
    let a = c.args in
    rw c.gather.ensures
    (part_is_field a.s.now a.at a.width ((a.at % 8 + a.width + 7) / 8) (omega arith) (omega arith) (omega arith))
