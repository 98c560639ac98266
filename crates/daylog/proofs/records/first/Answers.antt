-- `first` tests as `front` does: each answer follows from the tests before it.
use Rattle.std.proofs.Common.{◌≡◌, ◌<◌, ◌≤◌, length, sym, ◌∙◌, arith, le-leb}
use borrow.Author.Tests.{lt-leb}
use Rattle.daylog.specs.Records.{pair_at, front}
use Rattle.daylog.specs.Laws.Records.{inside}
use Rattle.daylog.proofs.records.first.Goals as goal

pub returns-then-s-lt-HEAD : goal.returns-then-s-lt-HEAD
unfolding front
returns-then-s-lt-HEAD c =
    let s = c.args.s.now in
    let few : length s < 4 = omega arith in
    rw (lt-leb 4 (length s) few)

pub returns-then-not-is_length : goal.returns-then-not-is_length
unfolding front
returns-then-not-is_length c =
    let s = c.args.s.now in
    let some : 4 ≤ length s = omega arith in
    let e : pair_at s 0 ≡ c.pair-whole.result = omega arith in
    rw (le-leb 4 (length s) some, e, sym c.is_length.ensures ∙ c.if-not-is_length.true)

pub returns-then-s-whole : goal.returns-then-s-whole
unfolding front
returns-then-s-whole c =
    let s = c.args.s.now in
    let some : 4 ≤ length s = omega arith in
    let e : pair_at s 0 ≡ c.pair-whole.result = omega arith in
    let cut : length s < pair_at s 0 = omega arith in
    rw (le-leb 4 (length s) some, lt-leb (pair_at s 0) (length s) cut, e, sym c.is_length.ensures ∙ c.if-not-is_length.false)

pub overflow_sub-result : goal.overflow_sub-result
overflow_sub-result c = (inside c.pair-whole.result (sym c.is_length.ensures ∙ c.if-not-is_length.false)).0

pub returns : goal.returns
unfolding front
returns c =
    let s = c.args.s.now in
    let some : 4 ≤ length s = omega arith in
    let e : pair_at s 0 ≡ c.pair-whole.result = omega arith in
    let whole : pair_at s 0 ≤ length s = omega arith in
    rw (le-leb 4 (length s) some, le-leb (pair_at s 0) (length s) whole, e, sym c.is_length.ensures ∙ c.if-not-is_length.false) (cc)
