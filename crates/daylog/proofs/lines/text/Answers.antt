-- `text` stores the bytes where they have room.
use Rattle.std.proofs.Common.{◌≡◌, ◌+◌, ◌≤◌, true, length, sym, ◌∙◌, leb-true}
use Rattle.daylog.specs.Laws.Made.{nowhere, placed_all}
use Rattle.daylog.proofs.lines.text.Goals.{After-has_room}
use Rattle.daylog.proofs.lines.text.Goals as goal

room : (c : After-has_room) → c.has_room.result ≡ true → let a = c.args in a.at + length a.bytes.now ≤ length a.out.now
room c e = let a = c.args in leb-true (a.at + length a.bytes.now) (length a.out.now) (sym c.has_room.ensures ∙ e)

pub put-requires : goal.put-requires
put-requires c = room (goal.at.put-requires c).After-has_room c.if-has_room.true

pub returns-then-has_room : goal.returns-then-has_room
returns-then-has_room c = let h = (goal.at.returns-then-has_room c).After-has_room in
    let a = c.args in
    rw (placed_all a.out.now a.at a.bytes.now (room h c.if-has_room.true)) c.put.ensures

pub returns-else-has_room : goal.returns-else-has_room
returns-else-has_room c = let a = c.args in
    nowhere a.out.now a.at a.bytes.now (sym c.has_room.ensures ∙ c.if-has_room.false)
