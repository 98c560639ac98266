-- `content` is the part of a good frame where its content stands, and nothing of a refused one.
use Rattle.std.proofs.Common.{refl, ap, ◌∙◌, List, [], ℕ}
use Rattle.std.specs.Prelude.{cond, Result, Ok, Err, is_ok, ◌-◌, length, take, drop}
use Rattle.bits.specs.Bits.{Bytes}
use Rattle.format.specs.declared.Refusal.{Refusal}
use Rattle.format.specs.Laws.Outcomes.{number_some}
use Rattle.txsq.specs.Promises.{Reads, Shows}
use Rattle.txsq.specs.Laws.Shown.{hidden, shown}
use Rattle.txsq.specs.declared.reading.Txsq.{Txsq}
use Rattle.txsq.proofs.reading.content.Goals as goal

by_answer : (s : List ℕ) (a : Result Txsq Refusal) → Bytes s → Reads s a → Shows s (cond (is_ok a) (take (length s - 1 - 17) (drop 17 s)) [])
by_answer s (Ok r) fine reads = (shown s (Ok r) reads refl fine refl).1
by_answer s (Err f) fine reads = hidden s (Err f) reads refl (number_some f.reason)

pub returns : goal.returns
returns c =
    let s = c.args.frame.now in
    c.content.ensures ∙ ap (λ b. cond b (take (length s - 1 - 17) (drop 17 s)) []) c.is_ok.ensures.value ∙ by_answer s c.read.result (λ i. (c.shared_slice_known-1.given i).fits) c.read.ensures
