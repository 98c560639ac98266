-- `put` puts the head, the areas, the text and the fill behind one another.
use Prim.Native.Nat.{ℕ}
use mathlib.Core.Path.{subst⁻¹}
use mathlib.Core.List.{List, ◌++◌}
use native.Mathlib.Omega.{arith}
use Rattle.bits.specs.Bits.{Bytes, put_bytes_at}
use Rattle.format.specs.Laws.Extent.{opens_field}
use Rattle.format.specs.Laws.Putting.{put_bytes, put_run, put_fill, put_end}
use Rattle.format.proofs.Laws.Putting.{begins}
use Rattle.format.specs.Laws.Runs.{run_bits}
use Rattle.walk.specs.Laws.Loops.{PutsAlong}
use Rattle.notice_fields.specs.Making.{areas_put}
use Rattle.notice_fields.specs.Laws.Putting.{areas_put_lem, areas_near}
use Rattle.notice_fields.specs.Areas.{areas}
use Rattle.notice_fields.specs.Terms.{our_point}
use Rattle.notice_fields.specs.Row.{areas_told}
use Rattle.notice_fields.specs.Standing.{front}
use Rattle.notice.specs.Record.{texted, values_of}
use Rattle.notice.proofs.writing.making.put.Goals as goal

pub overflow_add-at : goal.overflow_add-at
overflow_add-at c =
    let a = c.args in
    omega (arith, c.put-at.ensures.0, areas_near a.areas.now a.r.count 0 front c.put_head.new.buf)

pub returns : goal.returns
unfolding values_of put_bytes_at
returns c =
    let a = c.args in
    let x = a.text.now in
    let s = a.buf.now in
    let fine : Bytes s = λ i. (c.slice_known-1.given i).fits in
    λ english b e l.
    let r0 = c.put_head.ensures english (areas_told a.r.count a.areas.now ++ texted x) b fine e l in
    let o = areas_put a.areas.now a.r.count 0 front c.put_head.new.buf in
    let r1 = (subst⁻¹ (λ (x : ℕ × List ℕ). PutsAlong (areas our_point a.r.count) (λ f. f) front (areas_told a.r.count a.areas.now) c.put_head.new.buf x.0 x.1) {y = (o.0.at, o.1)} (λ i. (c.put-at.ensures.0 i, c.put-at.ensures.1 i))
    ((areas_put_lem a.areas.now a.r.count).along 0 front c.put_head.new.buf)).on r0 in
    let r2 = put_run x (run_bits x) (begins opens_field) (put_bytes r1) c.put_bytes.ensures in
    let r3 = put_fill r2 c.fill.ensures in
    put_end fine (omega arith) r3
