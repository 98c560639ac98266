-- `columns` stores the columns one after the other: the parts' lengths make up the line's, so each has room.
use Rattle.std.proofs.Common.{◌≡◌, ◌+◌, ◌≤◌, length, arith}
use Rattle.daylog.specs.LinesText.{decimal, line}
use Rattle.daylog.specs.Laws.Text.{line_length}
use Rattle.daylog.specs.Laws.Made.{then}
use Rattle.daylog.proofs.lines.columns.Goals.{After-mark-at-3}
use Rattle.daylog.proofs.lines.columns.Goals as goal

pub decimal-at-requires : goal.decimal-at-requires
decimal-at-requires c =
    let a = c.args in
    omega (arith, line_length a.number a.word.now (record { code = a.code; bit = a.bit }) a.bytes)

pub mark-at-requires : goal.mark-at-requires
mark-at-requires c =
    let a = c.args in
    omega (arith, line_length a.number a.word.now (record { code = a.code; bit = a.bit }) a.bytes)

pub put-at-requires : goal.put-at-requires
put-at-requires c =
    let a = c.args in
    omega (arith, line_length a.number a.word.now (record { code = a.code; bit = a.bit }) a.bytes)

pub mark-at-requires-2 : goal.mark-at-requires-2
mark-at-requires-2 c =
    let a = c.args in
    omega (arith, line_length a.number a.word.now (record { code = a.code; bit = a.bit }) a.bytes)

pub decimal-at-requires-2 : goal.decimal-at-requires-2
decimal-at-requires-2 c =
    let a = c.args in
    omega (arith, line_length a.number a.word.now (record { code = a.code; bit = a.bit }) a.bytes)

pub mark-at-requires-3 : goal.mark-at-requires-3
mark-at-requires-3 c =
    let a = c.args in
    omega (arith, line_length a.number a.word.now (record { code = a.code; bit = a.bit }) a.bytes)

pub decimal-at-requires-3 : goal.decimal-at-requires-3
decimal-at-requires-3 c =
    let a = c.args in
    omega (arith, line_length a.number a.word.now (record { code = a.code; bit = a.bit }) a.bytes)

-- the line's room, the offset and the buffer's length after three columns, which stand further back than `omega` reads
half : (c : After-mark-at-3) → let a = c.args in
    (a.at + length (line a.number a.word.now (record { code = a.code; bit = a.bit }) a.bytes) ≤ length a.out.now)
    × (c.mark-at-3.result ≡ a.at + length (decimal a.number) + length a.word.now + length (decimal a.code) + 3)
    × (length c.mark-at-3.new.out ≡ length a.out.now)
half c = omega arith

pub mark-at-requires-4 : goal.mark-at-requires-4
mark-at-requires-4 c =
    let a = c.args in
    omega (arith, line_length a.number a.word.now (record { code = a.code; bit = a.bit }) a.bytes, half (goal.at.mark-at-requires-4 c).After-mark-at-3)

pub decimal-at-requires-4 : goal.decimal-at-requires-4
decimal-at-requires-4 c =
    let a = c.args in
    omega (arith, line_length a.number a.word.now (record { code = a.code; bit = a.bit }) a.bytes, half (goal.at.decimal-at-requires-4 c).After-mark-at-3)

pub mark-requires : goal.mark-requires
mark-requires c =
    let a = c.args in
    omega (arith, line_length a.number a.word.now (record { code = a.code; bit = a.bit }) a.bytes, half (goal.at.mark-requires c).After-mark-at-3)

pub shape_of-out : goal.shape_of-out
shape_of-out c = omega (arith, half (goal.at.shape_of-out c).After-mark-at-3)

pub returns : goal.returns
unfolding line
returns c =
    then c.decimal-at.ensures
    (then c.mark-at.ensures
    (then c.put-at.ensures
    (then c.mark-at-2.ensures
    (then c.decimal-at-2.ensures
    (then c.mark-at-3.ensures
    (then c.decimal-at-3.ensures
    (then c.mark-at-4.ensures
    (then c.decimal-at-4.ensures c.mark.ensures))))))))
