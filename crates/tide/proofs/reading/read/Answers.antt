-- `read` answers as the walk does, then by room; the numbers go to the front of the row.
use Rattle.std.proofs.Common.{◌≤◌, ◌<◌, length, ap, ◌∙◌, arith}
use Rattle.std.specs.Prelude.{Err}
use Rattle.format.specs.Fmt.{accepted, also}
use Rattle.format.specs.Promises.{refused_by}
use Rattle.format.specs.Laws.Outcomes.{out_exit}
use Rattle.tide.specs.Record.{record_of}
use Rattle.tide.specs.Standing.{front, records_at}
use Rattle.tide.specs.Laws.Told.{reads_refused, reads_few, reads_good, stored, kept_row, fields_refused, fields_passed}
use Rattle.tide.proofs.reading.read.Goals as goal

pub returns-in_err-tide : goal.returns-in_err-tide
returns-in_err-tide c =
    let a = c.args in
    let s = a.s.now in
    let told = c.in_err-tide.ensures.told in
    reads_refused s a.row.now c.from_residual.result (out_exit c.from_residual.result _ c.from_residual.ensures.1 ∙ ap refused_by told) (ap (also record_of) (fields_refused 0 s _ told))

pub returns-then-row-numbers : goal.returns-then-row-numbers
returns-then-row-numbers c =
    let s = c.args.s.now in
    let row = c.args.row.now in
    let good = fields_passed 0 s c.in_ok-tide.field-0 c.in_ok-tide.ensures.told c.in_ok-tide.ensures.passed in
    let xs = records_at s c.in_ok-tide.field-0.tide.count front in
    let x = c.fill-numbers.ensures in
    let few : length row < length xs = omega (arith, x.0, c.if-row-numbers.true, c.fill-numbers.auto.row) in
    let is = reads_few s row good (Err c.into.result) (ap refused_by c.into.ensures) few in
    (is.0, x.1 ∙ kept_row row xs few ∙ is.1)

pub returns : goal.returns
returns c =
    let s = c.args.s.now in
    let row = c.args.row.now in
    let good = fields_passed 0 s c.in_ok-tide.field-0 c.in_ok-tide.ensures.told c.in_ok-tide.ensures.passed in
    let tide = c.in_ok-tide.field-0.tide in
    let xs = records_at s tide.count front in
    let x = c.fill-numbers.ensures in
    let enough : length xs ≤ length row = omega (arith, x.0, c.if-row-numbers.false, c.fill-numbers.auto.row) in
    let is = reads_good s row good enough in
    (ap (λ n. accepted (record { tide = tide; numbers = n })) x.0 ∙ is.0, x.1 ∙ stored row xs enough ∙ is.1)
