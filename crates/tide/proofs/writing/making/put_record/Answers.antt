-- `put_record` puts the position type, the position, the mark, the count and the entries behind one another.
use Prim.Native.Nat.{◌+◌, ◌*◌, ◌%◌, ◌≤◌}
use mathlib.Core.Path.{sym, ap, ◌∙◌}
use native.Mathlib.Omega.{arith}
use Rattle.format.specs.Correcting.{put_in, put_in_lem}
use Rattle.walk.specs.Rows.{Put}
use Rattle.notice_fields.specs.Parts.{point_bits}
use Rattle.tide.specs.Row.{entry_bits}
use Rattle.tide.specs.Laws.Putting.{record_turn, place_small}
use Rattle.tide.proofs.writing.making.put_record.Goals.{After-put_place-place}
use Rattle.tide.proofs.writing.making.put_record.Goals as goal

-- the position has a point's bits and two numbers at most
small : (c : After-put_place-place) → (c.put_place-place.result.at ≤ c.args.at + 1 + point_bits) × (c.put_place-place.result.next ≤ c.args.k + 1 + 2)
small c =
    let a = c.args in
    place_small a.row.now c.entry-kind.result (a.k + 1) (a.at + 1) c.put.new.s c.put_place-place.ensures

pub overflow_add-next : goal.overflow_add-next
overflow_add-next c = omega (arith, small (goal.at.overflow_add-next c).After-put_place-place)

pub overflow_add-mark : goal.overflow_add-mark
overflow_add-mark c = omega (arith, small (goal.at.overflow_add-mark c).After-put_place-place)

pub overflow_add-first : goal.overflow_add-first
overflow_add-first c = omega (arith, small (goal.at.overflow_add-first c).After-put_place-place)

pub overflow_add-first-2 : goal.overflow_add-first-2
overflow_add-first-2 c = omega (arith, small (goal.at.overflow_add-first-2 c).After-put_place-place)

pub overflow_add-from : goal.overflow_add-from
overflow_add-from c = omega (arith, small (goal.at.overflow_add-from c).After-put_place-place)

pub overflow_add-from-2 : goal.overflow_add-from-2
overflow_add-from-2 c = omega (arith, small (goal.at.overflow_add-from-2 c).After-put_place-place)

pub put_entries-requires : goal.put_entries-requires
put_entries-requires c =
    let near = small (goal.at.put_entries-requires c).After-put_place-place in
    (omega arith, omega (arith, near), omega (arith, near))

pub overflow_add-result : goal.overflow_add-result
overflow_add-result c = omega (arith, small (goal.at.overflow_add-result c).After-put_place-place)

pub overflow_add-result-2 : goal.overflow_add-result-2
overflow_add-result-2 c = omega (arith, small (goal.at.overflow_add-result-2 c).After-put_place-place)

pub returns : goal.returns
returns c =
    let a = c.args in
    let row = a.row.now in
    let place : Put = (c.put_place-place.result, c.put_place-place.new.buf) in
    let mark = place.0.at in
    let n = c.entry-counted.result % 512 in
    let kind = put_in_lem a.buf.now a.at 1 c.entry-kind.result c.put.ensures in
    let marked = put_in_lem place.1 mark 1 c.entry.result c.put-2.ensures ∙ ap (λ v. put_in place.1 mark 1 v) c.entry.ensures in
    let counted = put_in_lem c.put-2.new.s (mark + 1) 9 c.entry-counted.result c.put-3.ensures in
    ap (λ t. (record { at = mark + 1 + 9 + n * entry_bits; next = place.0.next + 1 + 1 + n * 3 }, t)) c.put_entries.ensures
    ∙ sym (record_turn row a.k a.at a.buf.now {p = place} c.entry-kind.ensures kind c.put_place-place.ensures marked c.entry-counted.ensures counted)
