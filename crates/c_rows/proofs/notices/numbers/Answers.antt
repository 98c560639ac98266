-- `numbers` gives the record's fields as they stand: each one fits 64 signed bits.
use mathlib.Core.List.{[], ◌∷◌}
use native.Mathlib.Omega.{arith}
use Rattle.c_rows.specs.Laws.Signed.{entry}
use Rattle.c_rows.proofs.notices.numbers.Goals as goal

pub returns : goal.returns
returns c =
    let r = c.args.r in
    let f = c.struct_known-1.given in
    λ i. entry r.notice.source (omega (arith, f.0.fits)) i
    ∷ entry r.notice.station (omega (arith, f.1.0.fits)) i
    ∷ entry r.notice.serial (omega (arith, f.1.1.0.fits)) i
    ∷ entry r.notice.year (omega (arith, f.1.1.1.0.fits)) i
    ∷ entry r.notice.kind (omega (arith, f.1.1.1.1.0.fits)) i
    ∷ entry r.notice.subtype (omega (arith, f.1.1.1.1.1.0.fits)) i
    ∷ entry r.notice.expiry (omega (arith, f.1.1.1.1.1.1.0.fits)) i
    ∷ entry r.notice.count (omega (arith, f.1.1.1.1.1.1.1.0.fits)) i
    ∷ entry r.numbers c.requires.0 i
    ∷ entry r.text c.requires.1 i
    ∷ []

pub overflow_cast-result-9 : goal.overflow_cast-result-9
overflow_cast-result-9 c = record { sfits = c.requires.0 }

pub overflow_cast-result-10 : goal.overflow_cast-result-10
overflow_cast-result-10 c = record { sfits = c.requires.1 }
