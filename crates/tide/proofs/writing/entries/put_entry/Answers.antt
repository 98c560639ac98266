-- `put_entry` puts an entry's three numbers: as one number of 32 bits where they fit and the buffer holds them, else one by one.
use Prim.Native.Nat.{◌+◌}
use mathlib.Core.Path.{sym, ap, ◌∙◌}
use lib.ListN.{length}
use Rattle.bits.specs.Laws.Answers.{within_true}
use Rattle.format.specs.Correcting.{put_in, put_in_lem}
use Rattle.tide.specs.Laws.Packed.{entry_packed}
use Rattle.tide.proofs.writing.entries.put_entry.Goals as goal

pub returns-then-holds : goal.returns-then-holds
returns-then-holds c =
    let a = c.args in
    let t = a.buf.now in
    let (narrow, bit, small) = c.fit.ensures c.if-fit.true in
    let room = (within_true (length t) a.at 32 (sym c.holds.ensures ∙ c.if-holds.true)).1 in
    put_in_lem t a.at 32 c.packed-all.result c.put.ensures ∙ ap (λ v. put_in t a.at 32 v) c.packed-all.ensures
    ∙ entry_packed t a.at room a.time a.sign a.value narrow bit small

pub returns : goal.returns
returns c =
    let a = c.args in
    put_in_lem _ (a.at + 21 + 1) 10 a.value c.put-4.ensures
    ∙ ap (λ q. put_in q (a.at + 21 + 1) 10 a.value)
    (put_in_lem _ (a.at + 21) 1 a.sign c.put-3.ensures ∙ ap (λ q. put_in q (a.at + 21) 1 a.sign) (put_in_lem a.buf.now a.at 21 a.time c.put-2.ensures))
