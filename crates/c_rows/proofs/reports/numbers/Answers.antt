-- `numbers` gives the record's fields as they stand: each one fits 64 signed bits.
use mathlib.Core.List.{[], ◌∷◌}
use native.Mathlib.Omega.{arith}
use mir.Syntax.{w32}
use Rattle.c_rows.specs.Laws.Signed.{entry, widens, widened}
use Rattle.c_rows.proofs.reports.numbers.Goals as goal

pub returns : goal.returns
returns c =
    let r = c.args.r in
    let f = c.struct_told-1.given in
    let east = widened {w = w32} {z = r.longitude} tt (record { sfits = f.1.0.1 }) in
    let north = widened {w = w32} {z = r.latitude} tt (record { sfits = f.1.1.0.1 }) in
    λ i. entry c.args.address (omega arith) i ∷ entry r.mmsi (omega arith) i ∷ east i ∷ north i ∷ entry r.day (omega arith) i ∷ entry r.hour (omega arith) i ∷ entry r.minute (omega arith) i ∷ entry r.speed (omega arith) i ∷ entry r.course (omega arith) i ∷ entry r.kind (omega arith) i ∷ []

pub overflow_cast-result-3 : goal.overflow_cast-result-3
overflow_cast-result-3 c = widens {w = w32} {z = c.args.r.longitude} tt (record { sfits = c.struct_told-1.given.1.0.1 })

pub overflow_cast-result-4 : goal.overflow_cast-result-4
overflow_cast-result-4 c = widens {w = w32} {z = c.args.r.latitude} tt (record { sfits = c.struct_told-1.given.1.1.0.1 })
