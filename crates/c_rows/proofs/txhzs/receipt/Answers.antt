-- `receipt` takes the four bytes.
use mathlib.Core.Path.{refl}
use Rattle.c_rows.specs.Txhz.{receipt_at}
use Rattle.c_rows.proofs.txhzs.receipt.Goals as goal

pub returns : goal.returns
unfolding receipt_at
returns c = refl
