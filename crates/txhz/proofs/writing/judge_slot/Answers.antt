-- `judge_slot` is one step of the walk, by whether the receipt is counted.
use Rattle.txhz.proofs.writing.judge_slot.Goals as goal

pub returns-then-live : goal.returns-then-live
returns-then-live c = rw c.if-live.true c.value.ensures

pub returns : goal.returns
returns c = rw c.if-live.false c.fill_value.ensures
