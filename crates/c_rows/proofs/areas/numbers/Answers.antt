-- `numbers` gives the record's fields as they stand: each one fits 64 signed bits.
use mathlib.Core.Path.{◌≡◌, ◌∙◌}
use mathlib.Core.List.{[], ◌∷◌}
use native.Mathlib.Omega.{arith}
use mir.Syntax.{w32}
use Rattle.c_rows.specs.Area.{row_with}
use Rattle.c_rows.specs.Laws.Signed.{entry, widens, widened}
use Rattle.c_rows.proofs.areas.numbers.Goals as goal

pub returns : goal.returns
returns c =
    let r = c.args.r in
    let n = c.of_shape-n.result in
    let f = c.struct_told-4-1.given in
    let own = c.struct_known-14-1.given in
    let seconds = c.struct_known-13-1.given in
    let times = c.struct_known-10-1.given in
    let fit : _ ≡ row_with r c.kind-kind.result n = λ i. entry r.repeat (omega (arith, own.0.fits)) i
    ∷ entry r.source (omega (arith, own.1.0.fits)) i
    ∷ entry r.sequence (omega (arith, own.1.1.0.fits)) i
    ∷ entry r.destination (omega (arith, own.1.1.1.0.fits)) i
    ∷ entry r.resent (omega (arith, own.1.1.1.1.0.fits)) i
    ∷ entry r.kind (omega (arith, own.1.1.1.1.1.0.fits)) i
    ∷ entry c.kind-kind.result (omega (arith, c.kind-kind.type_inv)) i
    ∷ widened {w = w32} {z = n.longitude} tt (record { sfits = f.0.1 }) i
    ∷ widened {w = w32} {z = n.latitude} tt (record { sfits = f.1.0.1 }) i
    ∷ widened {w = w32} {z = n.third} tt (record { sfits = f.1.1.0.1 }) i
    ∷ widened {w = w32} {z = n.fourth} tt (record { sfits = f.1.1.1.0.1 }) i
    ∷ entry r.time.month (omega (arith, times.0.fits)) i
    ∷ entry r.time.day (omega (arith, times.1.0.fits)) i
    ∷ entry r.time.hour (omega (arith, times.1.1.0.fits)) i
    ∷ entry r.time.minute (omega (arith, times.1.1.1.0.fits)) i
    ∷ entry r.second_time.month (omega (arith, seconds.0.fits)) i
    ∷ entry r.second_time.day (omega (arith, seconds.1.0.fits)) i
    ∷ entry r.second_time.hour (omega (arith, seconds.1.1.0.fits)) i
    ∷ entry r.advice (omega (arith, own.1.1.1.1.1.1.1.1.1.0.fits)) i ∷ [] in
    fit ∙ (λ i. row_with r (c.kind-kind.ensures i) (c.of_shape-n.ensures i))

pub overflow_cast-result-7 : goal.overflow_cast-result-7
overflow_cast-result-7 c = omega (arith, c.kind-kind.type_inv)

pub overflow_cast-result-8 : goal.overflow_cast-result-8
overflow_cast-result-8 c = widens {w = w32} {z = c.of_shape-n.result.longitude} tt (record { sfits = c.struct_told-4-1.given.0.1 })

pub overflow_cast-result-9 : goal.overflow_cast-result-9
overflow_cast-result-9 c = widens {w = w32} {z = c.of_shape-n.result.latitude} tt (record { sfits = c.struct_told-4-1.given.1.0.1 })

pub overflow_cast-result-10 : goal.overflow_cast-result-10
overflow_cast-result-10 c = widens {w = w32} {z = c.of_shape-n.result.third} tt (record { sfits = c.struct_told-4-1.given.1.1.0.1 })

pub overflow_cast-result-11 : goal.overflow_cast-result-11
overflow_cast-result-11 c = widens {w = w32} {z = c.of_shape-n.result.fourth} tt (record { sfits = c.struct_told-4-1.given.1.1.1.0.1 })
