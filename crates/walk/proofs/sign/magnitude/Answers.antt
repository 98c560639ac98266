-- `magnitude` is the number without its sign, which 32 bits hold.
use Rattle.walk.proofs.Ints.{take_up, take_up_fits, add_fits, sub_fits, take_down, take_down_fits}
use Rattle.walk.proofs.sign.magnitude.Goals as goal

pub overflow_cast-result : goal.overflow_cast-result
overflow_cast-result c = take_up_fits c.args.x c.ranges.x c.if-x-ge0.true

pub returns-then-x-ge0 : goal.returns-then-x-ge0
returns-then-x-ge0 c = take_up c.args.x c.ranges.x c.if-x-ge0.true

pub overflow_add-up : goal.overflow_add-up
overflow_add-up c = add_fits c.args.x c.ranges.x c.if-x-ge0.false

pub overflow_sub-n : goal.overflow_sub-n
overflow_sub-n c = sub_fits c.args.x c.ranges.x c.if-x-ge0.false

pub overflow_cast-result-2 : goal.overflow_cast-result-2
overflow_cast-result-2 c = take_down_fits c.args.x c.ranges.x c.if-x-ge0.false

pub returns : goal.returns
returns c = take_down c.args.x c.ranges.x c.if-x-ge0.false
