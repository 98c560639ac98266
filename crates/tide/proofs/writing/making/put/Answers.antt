-- `put` puts the head, the records and the fill behind one another.
use mathlib.Core.Path.{subst⁻¹}
use mathlib.Core.List.{append-nil}
use native.Mathlib.Omega.{arith}
use Rattle.bits.specs.Bits.{Bytes}
use Rattle.format.specs.Groups.{repeat}
use Rattle.format.specs.Laws.Putting.{Putting, put_fill, put_end}
use Rattle.walk.specs.Rows.{Put}
use Rattle.walk.specs.Laws.Loops.{PutsAlong}
use Rattle.tide.specs.Record.{values_of}
use Rattle.tide.specs.Row.{records_told}
use Rattle.tide.specs.Standing.{front}
use Rattle.tide.specs.Tide.{rest, tide_record}
use Rattle.tide.specs.Laws.Putting.{records_put_lem}
use Rattle.tide.proofs.writing.making.put.Goals as goal

pub returns : goal.returns
unfolding values_of
returns c =
    let a = c.args in
    let s = a.buf.now in
    let n = a.r.count in
    let us = records_told n a.row.now in
    let t = c.put_head.new.buf in
    let fine : Bytes s = λ i. (c.slice_known-1.given i).fits in
    λ b e l.
    let r0 = subst⁻¹ (λ vs. Putting s b (rest n) front vs t) (append-nil us) (c.put_head.ensures us b fine e l) in
    let r1 = (subst⁻¹ (λ (x : Put). PutsAlong (repeat n tide_record) (λ f. f) front us t x.0.at x.1) c.put_records-end.ensures ((records_put_lem a.row.now n).along 0 front t)).on r0 in
    put_end fine (omega arith) (put_fill r1 c.fill.ensures)
