-- `ending` stores the broken record's line where bytes are left and there is room.
use Rattle.std.proofs.Common.{◌≡◌, ℕ, zero, suc, length, refl, arith, le-leb}
use Rattle.format.specs.Refusals.{bare}
use Rattle.daylog.specs.LinesText.{line}
use Rattle.daylog.specs.Text.{broken}
use Rattle.daylog.specs.Log.{ending_of}
use Rattle.daylog.specs.Laws.Text.{line_some}
use Rattle.daylog.specs.Laws.Made.{none, laid}
use Rattle.daylog.proofs.ending.Goals as goal

some_left : (n left : ℕ) → (left ≡ 0 → ⊥) → ending_of n left ≡ line n broken (bare 1) left
some_left n zero h = absurd (h refl)
some_left n (suc left) h = refl

pub returns-then-left-eq0 : goal.returns-then-left-eq0
returns-then-left-eq0 c =
    let out = c.args.out.now in
    let e = le-leb 0 (length out) (omega arith) in
    rw c.if-left-eq0.true (record { code = rw e; text = rw e (none out) })

pub returns : goal.returns
returns c =
    let a = c.args in
    let text = line a.number broken (bare 1) a.left in
    rw (some_left a.number a.left c.if-left-eq0.false, c.laid.ensures) (laid text (rw c.into.ensures at c.line.ensures.stores) refl (line_some a.number broken (bare 1) a.left))
