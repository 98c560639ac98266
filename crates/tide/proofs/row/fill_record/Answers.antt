-- `fill_record` meets its contract: the position type, the position, the mark, the count and the entries stand one behind another.
use Prim.Native.Nat.{◌+◌, ◌^◌, ◌≤◌}
use mathlib.Core.Path.{◌≡◌, ap, ◌∙◌}
use native.Mathlib.Omega.{arith}
use lib.ListN.{length, set, length-set}
use lib.Seq.{length-sets}
use Rattle.walk.specs.Laws.Reading.{got_lt}
use Rattle.tide.specs.Standing.{placed_at, entries_at}
use Rattle.tide.specs.declared.row.Place.{Place}
use Rattle.tide.specs.Laws.Rows.{record_stored, record_length, record_room}
use Rattle.tide.specs.Laws.Shapes.{place_small}
use Rattle.tide.proofs.row.fill_record.Goals.{After-place_of-place}
use Rattle.tide.proofs.row.fill_record.Goals as goal

-- behind the position: it has few bits and numbers, and the row is as long as it was, with room for the rest
behind : (p : After-place_of-place) → let a = p.args in
    (p.place_of-place.result.wide ≤ 43) × (p.place_of-place.result.long ≤ 2) × (length p.fill_place.new.row ≡ length a.row.now) × (a.k + (p.place_of-place.result.long + 3) ≤ length a.row.now) × (a.k ≤ 2 ^ 32) × (a.at ≤ 2 ^ 32)
behind p =
    let a = p.args in
    let w = ap (λ (r : Place). r.wide) p.place_of-place.ensures in
    let l = ap (λ (r : Place). r.long) p.place_of-place.ensures in
    let (few, small) = place_small p.get-kind.result in
    let room = record_room a.s.now a.at p.get-kind.ensures in (
      omega (arith, w, small),
      omega (arith, l, few),
      ap length p.fill_place.ensures ∙ length-sets (set a.row.now a.k p.get-kind.result) (a.k + 1) (placed_at a.s.now p.get-kind.result (a.at + 1)) ∙ length-set a.row.now a.k p.get-kind.result,
      omega (arith, l, room, p.requires.2),
      p.requires.1,
      p.requires.0,
    )

pub overflow_cast-row : goal.overflow_cast-row
overflow_cast-row c = let a = c.args in omega (arith, got_lt a.s.now a.at 1 c.get-kind.ensures)

pub bounds-row-k : goal.bounds-row-k
bounds-row-k c = let a = c.args in omega (arith, record_room a.s.now a.at c.get-kind.ensures)

pub fill_place-requires : goal.fill_place-requires
fill_place-requires c =
    let a = c.args in
    (omega arith, simp length-set (omega (arith, record_room a.s.now a.at c.get-kind.ensures)))

pub overflow_add-mark : goal.overflow_add-mark
overflow_add-mark c = omega (arith, behind c)

pub overflow_add-mark-2 : goal.overflow_add-mark-2
overflow_add-mark-2 c = omega (arith, behind (goal.at.overflow_add-mark-2 c).After-place_of-place)

pub overflow_add-next : goal.overflow_add-next
overflow_add-next c = omega (arith, behind (goal.at.overflow_add-next c).After-place_of-place)

pub overflow_add-next-2 : goal.overflow_add-next-2
overflow_add-next-2 c = omega (arith, behind (goal.at.overflow_add-next-2 c).After-place_of-place)

pub overflow_cast-row-2 : goal.overflow_cast-row-2
overflow_cast-row-2 c =
    let a = c.args in
    omega (arith, got_lt a.s.now _ 1 c.get.ensures)

pub offset_bounds-row-next : goal.offset_bounds-row-next
offset_bounds-row-next c = omega (arith, behind (goal.at.offset_bounds-row-next c).After-place_of-place)

pub bounds-row-next : goal.bounds-row-next
bounds-row-next c = omega (arith, behind (goal.at.bounds-row-next c).After-place_of-place)

pub overflow_add-mark-3 : goal.overflow_add-mark-3
overflow_add-mark-3 c = omega (arith, behind (goal.at.overflow_add-mark-3 c).After-place_of-place)

pub overflow_cast-row-3 : goal.overflow_cast-row-3
overflow_cast-row-3 c =
    let a = c.args in
    omega (arith, got_lt a.s.now (a.at + 1 + c.place_of-place.result.wide + 1) 9 c.get-entries.ensures)

pub overflow_add-row : goal.overflow_add-row
overflow_add-row c = omega (arith, behind (goal.at.overflow_add-row c).After-place_of-place)

pub offset_bounds-row-next-2 : goal.offset_bounds-row-next-2
offset_bounds-row-next-2 c = omega (arith, behind (goal.at.offset_bounds-row-next-2 c).After-place_of-place)

pub bounds-row-next-2 : goal.bounds-row-next-2
bounds-row-next-2 c = simp length-set (omega (arith, behind (goal.at.bounds-row-next-2 c).After-place_of-place))

pub overflow_add-mark-4 : goal.overflow_add-mark-4
overflow_add-mark-4 c = omega (arith, behind (goal.at.overflow_add-mark-4 c).After-place_of-place)

pub overflow_add-mark-5 : goal.overflow_add-mark-5
overflow_add-mark-5 c = omega (arith, behind (goal.at.overflow_add-mark-5 c).After-place_of-place)

pub overflow_add-next-3 : goal.overflow_add-next-3
overflow_add-next-3 c = omega (arith, behind (goal.at.overflow_add-next-3 c).After-place_of-place)

pub fill_entries-requires : goal.fill_entries-requires
fill_entries-requires c =
    let p = (goal.at.fill_entries-requires c).After-place_of-place in
    let a = c.args in
    let s = a.s.now in
    let w = ap (λ (r : Place). r.wide) c.place_of-place.ensures in
    let l = ap (λ (r : Place). r.long) c.place_of-place.ensures in
    let x = c.get-entries.ensures in
    let all = record_length s a.at c.get-kind.ensures w l x in
    let count = got_lt s (a.at + 1 + c.place_of-place.result.wide + 1) 9 x in
    let (wide, long, same, room, k, at) = behind p in
    (omega (arith, wide, at), omega (arith, count), simp length-set (omega (arith, all, same, c.requires.2)))

pub shape_of-row : goal.shape_of-row
shape_of-row c =
    let p = (goal.at.shape_of-row c).After-place_of-place in
    let a = c.args in
    let to = a.k + 1 + c.place_of-place.result.long in
    let u = c.fill_place.new.row in
    let n = c.get-entries.result in
    let t = set u to c.get.result in
    let (wide, long, same, room, k, at) = behind p in
    ap length c.fill_entries.ensures ∙ length-sets (set t (to + 1) n) (to + 2) (entries_at a.s.now n (a.at + 1 + c.place_of-place.result.wide + 1 + 9)) ∙ length-set t (to + 1) n ∙ length-set u to c.get.result ∙ same

pub returns : goal.returns
returns c =
    let a = c.args in
    let s = a.s.now in
    let w = ap (λ (r : Place). r.wide) c.place_of-place.ensures in
    let l = ap (λ (r : Place). r.long) c.place_of-place.ensures in
    record_stored s a.row.now a.k a.at c.get-kind.ensures w l c.fill_place.ensures c.get.ensures c.get-entries.ensures c.fill_entries.ensures
