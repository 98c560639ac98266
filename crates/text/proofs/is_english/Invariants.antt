-- `text::is_english` meets its contract: the text is English where no byte so far was other than plain and those left are English.
use Rattle.std.proofs.Common.{◌≡◌, ◌&&◌}
use Rattle.bits.specs.Bits.{bytes_at}
use Rattle.text.specs.Text.{english}
use Rattle.text.proofs.Left.{left}
use Rattle.text.proofs.is_english.Given as goal

abbrev pub invariant-loop-i : goal.invariant-loop-i
invariant-loop-i l = english (bytes_at l.s l.at l.n) ≡ (l.good && english (left l.s l.at l.n l.i))
