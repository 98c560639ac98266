-- `spelled` tests each part, then joins them.
use Rattle.std.proofs.Common.{refl, arith, lt-ltb}
use borrow.Author.Tests.{le-ltb}
use Rattle.ais_common.specs.Time.{spell_short}
use Rattle.ais_common.proofs.time.ShortTime.spelled.Goals.{then-month-ge16-via-then-month-ge16, then-month-ge16-via-else-month-ge16+then-day-ge32, then-month-ge16-via-else-month-ge16+else-day-ge32+then-hour-ge32}
use Rattle.ais_common.proofs.time.ShortTime.spelled.Goals as goal

pub returns-then-month-ge16 : goal.returns-then-month-ge16
unfolding spell_short
returns-then-month-ge16 c =
    let t = c.args.self in
    elim c.then-month-ge16.branch [
      | then-month-ge16-via-then-month-ge16 w ↦ rw (le-ltb t.month 16 w.if-month-ge16.true) refl
      | then-month-ge16-via-else-month-ge16+then-day-ge32 w ↦ rw (lt-ltb t.month 16 w.if-month-ge16.false, le-ltb t.day 32 w.if-day-ge32.true) refl
      | then-month-ge16-via-else-month-ge16+else-day-ge32+then-hour-ge32 w ↦ rw (lt-ltb t.month 16 w.if-month-ge16.false, lt-ltb t.day 32 w.if-day-ge32.false, le-ltb t.hour 32 (omega (arith, w.if-hour-ge32.true))) refl
    ]

pub returns : goal.returns
unfolding spell_short
returns c =
    let t = c.args.self in
    rw (c.from.ensures, c.from-2.ensures, c.from-3.ensures, lt-ltb t.month 16 c.if-month-ge16.false, lt-ltb t.day 32 c.if-day-ge32.false, lt-ltb t.hour 32 c.if-hour-ge32.false) refl
