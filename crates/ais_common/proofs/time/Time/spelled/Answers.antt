-- `spelled` puts the minute behind the date, where both fit.
use Rattle.std.proofs.Common.{◌≡◌, ℕ, ◌+◌, ◌*◌, ◌^◌, refl, ap, ◌∙◌, lt-ltb}
use borrow.Author.Tests.{le-ltb}
use Rattle.ais_common.specs.Time.{spell_short, spell_time, timed}
use Rattle.ais_common.proofs.time.Time.spelled.Goals.{then-date-ge16384-via-then-date-ge16384, then-date-ge16384-via-else-date-ge16384+then-minute-ge64}
use Rattle.ais_common.proofs.time.Time.spelled.Goals as goal

pub returns-then-date-ge16384 : goal.returns-then-date-ge16384
unfolding spell_short spell_time
returns-then-date-ge16384 c =
    let t = c.args.self in
    let d = c.spelled-date.result in
    let n : ◌≡◌ {A = ℕ} (2 ^ 20) (timed d t.minute) =
    elim c.then-date-ge16384.branch [
      | then-date-ge16384-via-then-date-ge16384 w ↦ rw (le-ltb d (2 ^ 14) w.if-date-ge16384.true) refl
      | then-date-ge16384-via-else-date-ge16384+then-minute-ge64 w ↦ rw (lt-ltb d (2 ^ 14) w.if-date-ge16384.false, le-ltb t.minute 64 w.if-minute-ge64.true) refl
    ] in
    n ∙ ap (λ d. timed d t.minute) c.spelled-date.ensures

pub returns : goal.returns
unfolding spell_short spell_time
returns c =
    let t = c.args.self in
    let d = c.spelled-date.result in
    let n : d * 64 + t.minute ≡ timed d t.minute = rw (lt-ltb d (2 ^ 14) c.if-date-ge16384.false, lt-ltb t.minute 64 c.if-minute-ge64.false) refl in
    ap (d * 64 +◌) c.from.ensures ∙ n ∙ ap (λ d. timed d t.minute) c.spelled-date.ensures
