-- `put_records` meets its contract: what is left to put behind i records is what there was to put.
use Prim.Native.Nat.{◌+◌, ◌-◌}
use mathlib.Core.Path.{◌≡◌, sym, ap, ◌∙◌}
use native.Mathlib.Omega.{arith}
use Rattle.walk.specs.Rows.{repeat_put}
use Rattle.walk.specs.Laws.RowsPut.{repeat_put_turn}
use Rattle.tide.specs.Making.{record_put, records_put}
use Rattle.tide.specs.Standing.{front}
use Rattle.tide.specs.Laws.Putting.{record_small}
use Rattle.tide.proofs.writing.making.put_records.Goals as goal

pub loop-init : goal.loop-init
loop-init c =
    let a = c.args in
    let m : a.count ≡ a.count - 0 = omega arith in
    (ap (λ m. records_put a.row.now m 0 front a.buf.now) m, omega arith, omega arith)

pub loop-preserved : goal.loop-preserved
loop-preserved c =
    let a = c.args in
    let row = a.row.now in
    let (wide, long) = record_small row c.loop.k c.loop.at c.loop.buf c.put_record-record.ensures in (
      c.loop.invariant.0 ∙ repeat_put_turn (record_put row) (a.count - (c.loop.counter + 1)) c.loop.k c.loop.at c.loop.buf (omega arith) c.put_record-record.ensures,
      omega (arith, wide),
      omega (arith, long),
    )

pub returns : goal.returns
unfolding repeat_put
returns c =
    let a = c.args in
    let none : a.count - c.loop.counter ≡ 0 = omega arith in
    sym (c.loop.invariant.0 ∙ ap (λ m. records_put a.row.now m c.loop.k c.loop.at c.loop.buf) none)
