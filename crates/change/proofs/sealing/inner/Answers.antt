-- `inner` is the part up to the last byte.
use mathlib.Core.Path.{sym}
use native.Mathlib.Omega.{arith}
use lib.Seq.{length-take-le}
use mathlib.Core.Path.{ap}
use lib.ListN.{take}
use Rattle.change.proofs.sealing.inner.Goals as goal

pub slice_bounds-result-end : goal.slice_bounds-result-end
slice_bounds-result-end c = let s = c.args.s.now in sym (length-take-le c.saturating_sub-n.result s (omega arith))

pub returns : goal.returns
returns c = let s = c.args.s.now in ap (λ n. take n s) c.saturating_sub-n.ensures
