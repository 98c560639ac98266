-- `heading` stores one text, where it has room.
use Rattle.std.proofs.Common.{refl, lit≤}
use Rattle.daylog.specs.Text.{head}
use Rattle.daylog.specs.Laws.Made.{laid}
use Rattle.daylog.proofs.heading.Goals as goal

pub returns : goal.returns
returns c = rw c.laid.ensures (laid head c.text.ensures refl (lit≤ tt))
