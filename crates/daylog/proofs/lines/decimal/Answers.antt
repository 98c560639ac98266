-- `decimal` stores the last digit first: the digits of what is left, stored before those that stand, give the whole.
use Rattle.std.proofs.Common.{⊎_elim, ◌≡◌, ◌+◌, ◌-◌, ◌<◌, ◌≤◌, length, ◌/◌, ◌∷◌, [], refl, sym, ap, ◌∙◌, arith, subst}
use Rattle.std.proofs.lemmas.Bool.{cases_lt}
use Rattle.daylog.specs.LinesText.{decimal}
use Rattle.daylog.specs.Stores.{Stores}
use Rattle.daylog.specs.Laws.Text.{decimal_small, digits_small, digits_some, digits_more, decimal_turn, decimal_end}
use Rattle.daylog.proofs.lines.decimal.Goals as goal

pub mark-requires : goal.mark-requires
mark-requires c = omega (arith, digits_small c.args.number c.if-number-lt10.true)

pub returns-then-number-lt10 : goal.returns-then-number-lt10
returns-then-number-lt10 c =
    let a = c.args in
    subst (λ text. Stores a.out.now a.at text c.mark.result c.mark.new.out) (ap (λ d. d ∷ []) c.digit.ensures ∙ sym (decimal_small a.number c.if-number-lt10.true)) c.mark.ensures

pub loop-i-init : goal.loop-i-init
loop-i-init c =
    let some = digits_some c.args.number in
    record { within = omega arith; ends = λ h. omega arith; more = λ h. refl; done = λ e. absurd (omega arith) }

pub loop-i-preserved : goal.loop-i-preserved
loop-i-preserved c =
    let a = c.args in
    let out = c.loop-i.out in
    let i = c.loop-i.i - 1 in
    let n = c.loop-i.rest in
    let ends = c.loop-i.invariant.ends (omega arith) in
    let more = c.loop-i.invariant.more (omega arith) in
    let last : i + 1 ≡ a.at + length (decimal n) = omega arith in
    let long : a.at < i → 10 ≤ n = λ h. ⊎_elim (λ (l : n < 10). absurd (omega (arith, digits_small n l))) (λ (l : 10 ≤ n). l) (cases_lt n 10) in
    let short : i ≡ a.at → n < 10 = λ e. ⊎_elim (λ (l : n < 10). l) (λ (l : 10 ≤ n). absurd (omega (arith, digits_more n l, digits_some (n / 10)))) (cases_lt n 10) in
    record {
      within = omega arith;
      ends = λ h. omega (arith, digits_more n (long h));
      more = λ h. decimal_turn out a.at i n c.digit-in-loop-i.result c.digit-in-loop-i.ensures last (long h) ∙ more;
      done = λ e. decimal_end out a.at i n c.digit-in-loop-i.result c.digit-in-loop-i.ensures last (short e) ∙ more;
    }

pub returns : goal.returns
returns c = record { ends = omega arith; leaves = c.loop-i.invariant.done (omega arith) }
