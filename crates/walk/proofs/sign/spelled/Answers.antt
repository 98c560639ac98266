-- `spelled` goes by the size and the sign of the number.
use Rattle.std.proofs.Common.{◌≡◌, ℕ, ◌-◌, sym, ap, ◌∙◌, arith}
use lib.Signed.{mag}
use Rattle.walk.specs.Laws.Sign.{spell_far, spell_up, spell_down}
use Rattle.walk.proofs.Ints.{same, sign_is}
use Rattle.walk.proofs.sign.spelled.Goals as goal

pub returns-then-n-full : goal.returns-then-n-full
returns-then-n-full c =
    let a = c.args in
    let n : c.magnitude-n.result ≡ mag a.x = c.magnitude-n.ensures ∙ ap mag (same a.x c.ranges.x) in
    sym (spell_far a.full a.x (omega (arith, n)))

pub returns-then-x-ge0 : goal.returns-then-x-ge0
returns-then-x-ge0 c =
    let a = c.args in
    let n : c.magnitude-n.result ≡ mag a.x = c.magnitude-n.ensures ∙ ap mag (same a.x c.ranges.x) in
    n ∙ sym (spell_up a.full a.x (omega (arith, n)) (sign_is a.x c.ranges.x c.if-x-ge0.true))

pub returns : goal.returns
returns c =
    let a = c.args in
    let n : c.magnitude-n.result ≡ mag a.x = c.magnitude-n.ensures ∙ ap mag (same a.x c.ranges.x) in
    ap (λ (m : ℕ). a.full - m - 1) n ∙ sym (spell_down a.full a.x (omega (arith, n)) (sign_is a.x c.ranges.x c.if-x-ge0.false))
