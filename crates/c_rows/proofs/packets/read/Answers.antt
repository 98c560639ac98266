-- `read` is the packet's `read`, and its record's numbers in the row with the content's offset and size.
use Rattle.std.proofs.Common.{sym, ap, ◌∙◌, subst, arith}
use Rattle.format.specs.Fmt.{accepted}
use Rattle.format.specs.Refusals.{told_of}
use Rattle.c_rows.specs.Row.{Fills, entries}
use Rattle.c_rows.specs.Laws.Packet.{good_size, good_numbers}
use Rattle.c_rows.proofs.packets.read.Goals as goal

pub overflow_sub-s : goal.overflow_sub-s
overflow_sub-s c =
    let (least, most) = good_size c.args.s.now c.in_ok-r.r c.in_ok-r.ensures in
    omega (arith, least)

pub numbers-requires : goal.numbers-requires
numbers-requires c =
    let (least, most) = good_size c.args.s.now c.in_ok-r.r c.in_ok-r.ensures in
    omega (arith, most)

pub returns : goal.returns
returns c =
    let a = c.args in
    let is = good_numbers a.s.now c.in_ok-r.r c.in_ok-r.ensures (λ i. (c.shared_slice_known-1.given i).fits) in
    subst (λ o. Fills o a.row.now (told_of c.fill.result) c.fill.new.row) (ap accepted c.numbers.ensures ∙ sym is) c.fill.ensures
