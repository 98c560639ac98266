-- `digit_count`: a number has one digit more than the greatest power of ten in it.
use Rattle.std.proofs.Common.{◌≡◌, ℕ, zero, suc, ◌+◌, ◌*◌, ◌/◌, ◌^◌, ◌≤◌, ◌<◌, length, pow-suc, arith, sym}
use Rattle.daylog.specs.LinesText.{decimal}
use Rattle.daylog.specs.Laws.Text.{digits_small, digits_more}
use Rattle.daylog.proofs.lines.digit_count.Goals as goal

digits_exact : (k n : ℕ) → 10 ^ k ≤ n → n < 10 * 10 ^ k → length (decimal n) ≡ k + 1
digits_exact zero n l h = omega (arith, digits_small n (omega arith))
digits_exact (suc k) n l h =
    let p = pow-suc 10 k in
    omega (arith, digits_more n (omega arith), digits_exact k (n / 10) (omega arith) (omega arith))

pub returns-in-Some : goal.returns-in-Some
returns-in-Some c =
    let h = c.in-Some.ensures in
    sym (digits_exact c.in-Some.power c.args.number h.power_le h.next_power_gt)

pub returns-in-None : goal.returns-in-None
returns-in-None c =
    let h = c.in-None.ensures in
    omega (arith, h.none, digits_small c.args.number (omega (arith, h.none)))
