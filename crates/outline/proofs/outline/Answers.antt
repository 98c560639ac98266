-- `outline` answers as the walk does, then by room; the points go to the front of the row.
use Prim.Native.Nat.{◌≤◌}
use mathlib.Core.Path.{◌≡◌, refl, sym, ap, ◌∙◌}
use native.Mathlib.Omega.{arith}
use lib.ListN.{length}
use lib.Seq.{sets}
use Rattle.bits.specs.Bits.{bytes_at}
use Rattle.format.specs.Fmt.{accepted, also}
use Rattle.format.specs.Laws.Outcomes.{number_some, out_exit}
use Rattle.notice_fields.specs.Standing.{front, areas_at}
use Rattle.notice_fields.specs.declared.row.Extent.{Extent}
use Rattle.notice.specs.Record.{record_of}
use Rattle.notice.specs.Steps.{Course, course, course_of}
use Rattle.notice.proofs.Laws.Told.{walked_good, walked_bad, fields_are}
use Rattle.outline.specs.Outline.{outline_of}
use Rattle.outline.specs.Promises.{told}
use Rattle.outline.proofs.Laws.Drawing.{outline_stands, outline_at_long, count_stands, points_few}
use Rattle.outline.specs.Laws.Outlines.{outlines_refused, outlines_short, outlines_good}
use Rattle.outline.proofs.outline.Goals.{In_ok-f}
use Rattle.outline.proofs.outline.Goals as goal

pub returns-in_err-f : goal.returns-in_err-f
returns-in_err-f c = let a = c.args in
    let s = a.s.now in
    let told = c.in_err-f.ensures.0 in
    let n = walked_bad a.english 0 s (course_of a.english 0 s) refl (λ z. number_some _ (ap (λ v. v.code) told ∙ z)) in
    outlines_refused a.english s a.row.now c.from_residual.result (out_exit c.from_residual.result _ c.from_residual.ensures.1) told (ap (also record_of) n)

-- the notice was read
all_read : (c : In_ok-f) → let a = c.args in let f = c.in_ok-f.f in told a.english a.s.now ≡ accepted (f.notice, (areas_at a.s.now f.notice.count front, bytes_at a.s.now f.at f.text))
all_read c =
    let a = c.args in
    let d = c.in_ok-f.ensures.1 in
    walked_good a.english 0 a.s.now (course c.in_ok-f.f) d (ap (λ (k : Course). k.walk.code) d ∙ sym (ap (λ v. v.code) c.in_ok-f.ensures.0))

pub overflow_mul-points : goal.overflow_mul-points
overflow_mul-points c = let a = c.args in
    let s = a.s.now in
    let few = points_few s c.in_ok-f.f.notice.count front in
    omega (arith, few, (fields_are a.english 0 s c.in_ok-f.ensures.1).few, ap (λ (e : Extent). e.points) c.measure-extent.ensures)

pub returns-then-row-points : goal.returns-then-row-points
returns-then-row-points c = let a = c.args in
    let s = a.s.now in
    let n = c.in_ok-f.f.notice.count in
    let points = ap (λ (e : Extent). e.points) c.measure-extent.ensures in
    outlines_short a.english s a.row.now (all_read (goal.at.returns-then-row-points c).In_ok-f) c.into.result c.into.ensures (omega (arith, points, ap length (outline_stands s n front), outline_at_long s n front, c.if-row-points.true))

pub draw-requires : goal.draw-requires
draw-requires c = let a = c.args in
    let s = a.s.now in
    let points = ap (λ (e : Extent). e.points) c.measure-extent.ensures in
    omega (arith, points, outline_at_long s c.in_ok-f.f.notice.count front, c.if-row-points.false)

pub returns : goal.returns
returns c = let a = c.args in
    let s = a.s.now in
    let n = c.in_ok-f.f.notice.count in
    let points = ap (λ (e : Extent). e.points) c.measure-extent.ensures in
    let drawn = outline_stands s n front in
    let room : length (outline_of n (areas_at s n front)) ≤ length a.row.now = omega (arith, points, ap length drawn, outline_at_long s n front, c.if-row-points.false) in
    let is = outlines_good a.english s a.row.now (all_read (goal.at.returns c).In_ok-f) room in
    (ap accepted (points ∙ sym (count_stands s n front)) ∙ is.0, c.draw.ensures ∙ ap (sets a.row.now 0) (sym drawn) ∙ is.1)
