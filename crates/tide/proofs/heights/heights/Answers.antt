-- `heights` answers as the walk does, then by room; the heights go to the front of the row.
use Rattle.std.proofs.Common.{◌≤◌, length, sym, ap, ◌∙◌, arith}
use Rattle.std.proofs.lemmas.List.Edits.{sets}
use Rattle.std.specs.Prelude.{Err}
use Rattle.format.specs.Fmt.{accepted, also}
use Rattle.format.specs.Promises.{refused_by}
use Rattle.format.specs.Laws.Outcomes.{out_exit}
use Rattle.tide.specs.Heights.{heights_of}
use Rattle.tide.specs.Record.{record_of}
use Rattle.tide.specs.Standing.{front, records_at}
use Rattle.tide.specs.declared.row.Extent.{Extent}
use Rattle.tide.specs.Laws.Heights.{heights_stand, heights_long, shows_refused, shows_short, shows_good}
use Rattle.tide.specs.Laws.Told.{fields_refused, fields_passed}
use Rattle.tide.proofs.heights.heights.Goals as goal

pub returns-in_err-tide : goal.returns-in_err-tide
returns-in_err-tide c =
    let s = c.args.s.now in
    let told = c.in_err-tide.ensures.told in
    shows_refused s c.args.row.now c.from_residual.result (out_exit c.from_residual.result _ c.from_residual.ensures.1 ∙ ap refused_by told) (ap (also record_of) (fields_refused 0 s _ told))

pub returns-then-row-entries : goal.returns-then-row-entries
returns-then-row-entries c =
    let s = c.args.s.now in
    let good = fields_passed 0 s c.in_ok-tide.field-0 c.in_ok-tide.ensures.told c.in_ok-tide.ensures.passed in
    let n = c.in_ok-tide.field-0.tide.count in
    let entries = ap (λ (e : Extent). e.entries) c.measure-extent.ensures in
    shows_short s c.args.row.now good (Err c.into.result) (ap refused_by c.into.ensures)
    (omega (arith, entries, ap length (heights_stand s n front), heights_long s n front, c.if-row-entries.true))

pub show-requires : goal.show-requires
show-requires c =
    let entries = ap (λ (e : Extent). e.entries) c.measure-extent.ensures in
    omega (arith, entries, heights_long c.args.s.now c.in_ok-tide.field-0.tide.count front, c.if-row-entries.false)

pub returns : goal.returns
returns c =
    let s = c.args.s.now in
    let row = c.args.row.now in
    let good = fields_passed 0 s c.in_ok-tide.field-0 c.in_ok-tide.ensures.told c.in_ok-tide.ensures.passed in
    let n = c.in_ok-tide.field-0.tide.count in
    let entries = ap (λ (e : Extent). e.entries) c.measure-extent.ensures in
    let stand = heights_stand s n front in
    let room : length (heights_of n (records_at s n front)) ≤ length row = omega (arith, entries, ap length stand, heights_long s n front, c.if-row-entries.false) in
    let is = shows_good s row good room in
    (ap accepted (entries ∙ heights_long s n front ∙ sym (ap length stand)) ∙ is.0, c.show.ensures ∙ ap (sets row 0) (sym stand) ∙ is.1)
