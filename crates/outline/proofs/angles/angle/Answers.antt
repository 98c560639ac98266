-- `angle` is the sum of its parts, or its negative: both fit 32 signed bits.
use Rattle.outline.specs.Laws.Angles.{minus_fits, angle_kept, angle_turned}
use Rattle.outline.proofs.angles.angle.Goals as goal

pub returns-then-sign-eq0 : goal.returns-then-sign-eq0
returns-then-sign-eq0 c = angle_kept c.args.degrees c.args.v c.requires c.if-sign-eq0.true

pub overflow_sub-result : goal.overflow_sub-result
overflow_sub-result c = minus_fits c.args.degrees c.args.v c.requires

pub returns : goal.returns
returns c = angle_turned c.args.degrees c.args.v c.requires c.if-sign-eq0.false
