-- `put_each` meets its contract: what is left to put behind j entries is what there was to put.
use Prim.Native.Nat.{◌+◌, ◌-◌, ◌*◌}
use mathlib.Core.Path.{◌≡◌, sym, ap, ◌∙◌}
use native.Mathlib.Omega.{arith}
use Rattle.walk.specs.Rows.{even_put}
use Rattle.walk.specs.Laws.RowsPut.{even_put_turn}
use Rattle.tide.specs.Making.{three_put, entry_put, entries_put}
use Rattle.tide.specs.Row.{entry_bits}
use Rattle.tide.proofs.writing.entries.put_each.Goals as goal

pub loop-j-init : goal.loop-j-init
loop-j-init c =
    let a = c.args in
    let m : a.n ≡ a.n - 0 = omega arith in
    let k : a.k ≡ a.k + 0 * 3 = omega arith in
    let at : a.at ≡ a.at + 0 * entry_bits = omega arith in
    λ i. entries_put a.row.now (m i) (k i) (at i) a.buf.now

pub loop-j-preserved : goal.loop-j-preserved
loop-j-preserved c =
    let a = c.args in
    let j = c.loop-j.j in
    let here = a.at + j * entry_bits in
    let put = c.put_entry.ensures ∙ (λ i. three_put (c.entry-time.ensures i) (c.entry-sign.ensures i) (c.entry-value.ensures i) here c.loop-j.buf) in
    c.loop-j.invariant ∙ even_put_turn 3 entry_bits (a.n - (j + 1)) (entry_put a.row.now) (a.k + j * 3) here c.loop-j.buf (omega arith) (omega arith) (omega arith) put

pub returns : goal.returns
unfolding even_put
returns c =
    let a = c.args in
    let none : a.n - c.loop-j.j ≡ 0 = omega arith in
    sym (c.loop-j.invariant ∙ ap (λ m. entries_put a.row.now m (a.k + c.loop-j.j * 3) (a.at + c.loop-j.j * entry_bits) c.loop-j.buf) none)
