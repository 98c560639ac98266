-- `put` meets its contract: what is left to put behind the areas so far is what there was to put.
use Prim.Native.Nat.{◌+◌, ◌-◌}
use mathlib.Core.Path.{◌≡◌, sym, ap, ◌∙◌}
use native.Mathlib.Omega.{arith}
use Rattle.notice_fields.specs.Standing.{front}
use Rattle.notice_fields.specs.Making.{area_put, areas_put}
use Rattle.notice_fields.specs.Laws.Putting.{area_small}
use Rattle.walk.specs.Rows.{Put, repeat_put}
use Rattle.walk.specs.Laws.RowsPut.{repeat_put_turn}
use Rattle.notice_fields.proofs.making.put.Goals as goal

pub overflow_cast-at : goal.overflow_cast-at
overflow_cast-at c = omega arith

pub loop-init : goal.loop-init
loop-init c =
    let a = c.args in
    let m : a.count ≡ a.count - 0 = omega arith in
    (ap (λ m. areas_put a.row.now m 0 front a.buf.now) m, omega arith, omega arith)

pub put_area-area-requires : goal.put_area-area-requires
put_area-area-requires c = (omega arith, omega arith)

pub loop-preserved : goal.loop-preserved
loop-preserved c =
    let a = c.args in
    let row = a.row.now in
    let (far, small) = area_small row c.loop.k c.loop.at c.loop.buf c.put_area-area.ensures in (
      c.loop.invariant.0 ∙ repeat_put_turn (area_put row) (a.count - (c.loop.counter + 1)) c.loop.k c.loop.at c.loop.buf (omega arith) c.put_area-area.ensures,
      omega (arith, far),
      omega (arith, small),
    )

pub returns : goal.returns
unfolding repeat_put
returns c =
    let a = c.args in
    let none : a.count - c.loop.counter ≡ 0 = omega arith in
    let e = c.loop.invariant.0 ∙ ap (λ m. areas_put a.row.now m c.loop.k c.loop.at c.loop.buf) none in
    (sym (ap (λ (p : Put). p.0.at) e), sym (ap (λ (p : Put). p.1) e))
