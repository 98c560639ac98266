-- `text::is_chinese` meets its contract: the text is Chinese where the bytes left are, after each plain character and each pair.
use Rattle.std.proofs.Common.{◌≡◌, ◌≤◌, ◌-◌}
use Rattle.bits.specs.Bits.{bytes_at}
use Rattle.text.specs.Text.{chinese}
use Rattle.text.proofs.Left.{left}
use Rattle.text.proofs.is_chinese.Given as goal

abbrev pub invariant-loop-i : goal.invariant-loop-i
invariant-loop-i l = record {
  end : l.places.end ≡ l.n;
  within : l.places.start ≤ l.n;
  same : chinese (bytes_at l.s l.at l.n) ≡ chinese (left l.s l.at l.n l.places.start);
}

abbrev pub decreases-loop-i : goal.decreases-loop-i
decreases-loop-i l = l.n - l.places.start
