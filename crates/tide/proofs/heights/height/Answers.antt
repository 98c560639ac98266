-- `height` is the value, or its negative: both fit 32 signed bits.
use Rattle.tide.specs.Laws.Heights.{minus_fits, height_kept, height_turned}
use Rattle.tide.proofs.heights.height.Goals as goal

pub overflow_sub-result : goal.overflow_sub-result
overflow_sub-result c = minus_fits c.args.sign c.args.value c.requires

pub returns-then-sign-eq0 : goal.returns-then-sign-eq0
returns-then-sign-eq0 c = height_turned c.args.sign c.args.value c.requires c.if-sign-eq0.true

pub returns : goal.returns
returns c = height_kept c.args.sign c.args.value c.requires c.if-sign-eq0.false
