-- `line_fits` compares the line's length, or one that no line with that word passes.
use Rattle.std.proofs.Common.{◌≡◌, ◌+◌, leb, length, sym, ap, ◌∙◌, arith, le-leb, leb-true}
use Rattle.daylog.specs.LinesText.{line}
use Rattle.daylog.specs.Laws.Text.{line_length, line_most, digits_few}
use Rattle.daylog.proofs.lines.line_fits.Goals as goal

pub returns-then-has_room : goal.returns-then-has_room
returns-then-has_room c =
    let a = c.args in
    let w = leb-true (a.at + (length a.word.now + 68)) a.len (sym c.has_room.ensures ∙ c.if-has_room.true) in
    let m = line_most a.number a.word.now (record { code = a.code; bit = a.bit }) a.bytes c.ranges.number.fits c.ranges.code.fits c.ranges.bit.fits c.ranges.bytes.fits in
    sym (le-leb (a.at + length (line a.number a.word.now (record { code = a.code; bit = a.bit }) a.bytes)) a.len (omega arith))

pub overflow_add-told : goal.overflow_add-told
overflow_add-told c =
    let a = c.args in
    let j = digits_few 2 a.code (omega (arith, c.ranges.code.fits)) in
    let k = digits_few 19 a.bit (omega (arith, c.ranges.bit.fits)) in
    omega arith

pub overflow_add-digits : goal.overflow_add-digits
overflow_add-digits c =
    let a = c.args in
    let i = digits_few 19 a.number (omega (arith, c.ranges.number.fits)) in
    let j = digits_few 2 a.code (omega (arith, c.ranges.code.fits)) in
    let k = digits_few 19 a.bit (omega (arith, c.ranges.bit.fits)) in
    omega arith

pub overflow_add-digits-2 : goal.overflow_add-digits-2
overflow_add-digits-2 c =
    let a = c.args in
    let i = digits_few 19 a.number (omega (arith, c.ranges.number.fits)) in
    let j = digits_few 2 a.code (omega (arith, c.ranges.code.fits)) in
    let k = digits_few 19 a.bit (omega (arith, c.ranges.bit.fits)) in
    let l = digits_few 19 a.bytes (omega (arith, c.ranges.bytes.fits)) in
    omega arith

pub overflow_add-word-2 : goal.overflow_add-word-2
overflow_add-word-2 c =
    let a = c.args in
    let i = digits_few 19 a.number (omega (arith, c.ranges.number.fits)) in
    let j = digits_few 2 a.code (omega (arith, c.ranges.code.fits)) in
    let k = digits_few 19 a.bit (omega (arith, c.ranges.bit.fits)) in
    let l = digits_few 19 a.bytes (omega (arith, c.ranges.bytes.fits)) in
    omega arith

pub overflow_add-word-3 : goal.overflow_add-word-3
overflow_add-word-3 c =
    let a = c.args in
    let i = digits_few 19 a.number (omega (arith, c.ranges.number.fits)) in
    let j = digits_few 2 a.code (omega (arith, c.ranges.code.fits)) in
    let k = digits_few 19 a.bit (omega (arith, c.ranges.bit.fits)) in
    let l = digits_few 19 a.bytes (omega (arith, c.ranges.bytes.fits)) in
    omega arith

pub returns : goal.returns
returns c =
    let a = c.args in
    let w = length a.word.now in
    let told = c.digit_count.result + c.digit_count-2.result in
    let e : w + (c.digit_count-3.result + told + c.digit_count-4.result) + 5
    ≡ length (line a.number a.word.now (record { code = a.code; bit = a.bit }) a.bytes) =
    omega (arith, line_length a.number a.word.now (record { code = a.code; bit = a.bit }) a.bytes) in
    c.has_room-2.ensures ∙ ap (λ n. leb (a.at + n) a.len) e
