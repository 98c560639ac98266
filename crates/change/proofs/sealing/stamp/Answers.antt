-- `stamp` stores the sum of the first n bytes behind them.
use mathlib.Core.Path.{sym}
use native.Mathlib.Omega.{arith}
use lib.Seq.{length-take-le}
use Rattle.format.specs.Laws.Sealing.{set_stamp, stamp_past}
use Rattle.change.proofs.sealing.stamp.Goals as goal

pub slice_bounds-xor-end-then-n-buf : goal.slice_bounds-xor-end-then-n-buf
slice_bounds-xor-end-then-n-buf c = let a = c.args in sym (length-take-le a.n a.buf.now (omega arith))

pub returns-then-n-buf : goal.returns-then-n-buf
returns-then-n-buf c =
    let a = c.args in
    set_stamp a.buf.now a.n c.xor-sum.result (omega arith) c.xor-sum.ensures

pub returns-else-n-buf : goal.returns-else-n-buf
returns-else-n-buf c = let a = c.args in stamp_past a.buf.now a.n (omega arith)
