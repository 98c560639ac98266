-- `write`: address, report and room are tested in this order, and a way out before them leaves the buffer.
use mathlib.Core.Path.{◌≡◌, refl, sym, ap, ◌∙◌}
use mathlib.Core.Bool.{true, false, and-false}
use Prim.Native.Nat.{◌+◌, ◌-◌}
use native.Mathlib.Omega.{arith}
use lib.Dec.{leb}
use lib.ListN.{length, take, drop, replicate, length-drop}
use lib.Seq.{take_all}
use borrow.Author.Tests.{le-leb, lt-leb}
use Rattle.format.specs.Promises.{refused_by}
use Rattle.format.specs.Refusals.{told_of, seen_refusal}
use Rattle.format.specs.Laws.Outcomes.{number_some, out_exit}
use Rattle.sentence.specs.Pattern.{address_good}
use Rattle.sentence.specs.Spelling.{decimal}
use Rattle.sentence.specs.Laws.Digits.{decimal_wide, spells_digits}
use Rattle.sentence.specs.Laws.Calls.{Reported, reported, bad_address, bad_report, all_laid, none_laid}
use Rattle.sentence.proofs.writing.write.Goals.{After-decimal-figures, After-write, Else-address-gt-GREATEST_ADDRESS, then-address-lt-LEAST_ADDRESS-via-then-address-lt-LEAST_ADDRESS, then-address-lt-LEAST_ADDRESS-via-else-address-lt-LEAST_ADDRESS+then-address-gt-GREATEST_ADDRESS}
use Rattle.sentence.proofs.writing.write.Goals as goal

within : (c : Else-address-gt-GREATEST_ADDRESS) → address_good c.args.address ≡ true
within c = let a = c.args.address in rw (le-leb 1 a (omega arith), le-leb a 2_097_151 (omega arith)) refl

report : (c : After-write) → Reported c.args.r (told_of c.write.result) c.write.new.buf
report c = reported (replicate 17 0) c.args.r (told_of c.write.result) c.write.new.buf refl c.write.ensures

-- the digits that are laid down are the address's
digits : (c : After-decimal-figures) → let d = c.decimal-figures.result in
    take (length d.chars - d.from) (drop d.from d.chars) ≡ decimal 7 c.args.address
digits c =
    let d = c.decimal-figures in
    let l = d.ensures.long in
    take_all (length d.result.chars - d.result.from) (drop d.result.from d.result.chars) (omega (arith, length-drop d.result.from d.result.chars))
    ∙ spells_digits d.ensures
    ∙ decimal_wide 3 7 c.args.address (omega arith)

pub returns-then-address-lt-LEAST_ADDRESS : goal.returns-then-address-lt-LEAST_ADDRESS
returns-then-address-lt-LEAST_ADDRESS c =
    let a = c.args in
    let bad : address_good a.address ≡ false =
    elim c.then-address-lt-LEAST_ADDRESS.branch [
      | then-address-lt-LEAST_ADDRESS-via-then-address-lt-LEAST_ADDRESS w ↦ rw (lt-leb 1 a.address w.if-address-lt-LEAST_ADDRESS.true) refl
      | then-address-lt-LEAST_ADDRESS-via-else-address-lt-LEAST_ADDRESS+then-address-gt-GREATEST_ADDRESS w ↦ rw (lt-leb a.address 2_097_151 w.if-address-gt-GREATEST_ADDRESS.true, and-false (leb 1 a.address)) refl
    ] in
    let (told, left) = bad_address a.buf.now a.address a.r bad in
    (ap refused_by c.into.ensures ∙ told, left)

pub returns-in_err-write : goal.returns-in_err-write
returns-in_err-write c =
    let w = (goal.at.returns-in_err-write c).After-write in
    let g = (goal.at.returns-in_err-write c).Else-address-gt-GREATEST_ADDRESS in
    let a = c.args in
    let f = c.in_err-write.field-0.0 in
    let was : told_of c.write.result ≡ seen_refusal f = ap told_of c.in_err-write.was in
    let some : (told_of c.write.result).code ≡ 0 → ⊥ = λ z. number_some f.reason (sym (ap (λ v. v.code) was) ∙ z) in
    let (told, left) = bad_report a.buf.now a.address a.r (within g) (told_of c.write.result) some ((report w).bad some) in
    (out_exit c.from_residual.result f c.from_residual.ensures.1 ∙ ap refused_by (sym was) ∙ told, left)

pub returns-then-lay : goal.returns-then-lay
returns-then-lay c =
    let d = (goal.at.returns-then-lay c).After-decimal-figures in
    let w = (goal.at.returns-then-lay c).After-write in
    let g = (goal.at.returns-then-lay c).Else-address-gt-GREATEST_ADDRESS in
    let a = c.args in
    all_laid a.buf.now a.address a.r (within g) c.write.new.buf ((report w).good (ap (λ x. (told_of x).code) c.in_ok-write.was)) _ c.lay.new.buf c.lay.result (digits d) c.lay.ensures
    _ (ap (λ ds. 53 + length ds) (digits d)) c.if-lay.true

pub returns : goal.returns
returns c =
    let d = (goal.at.returns c).After-decimal-figures in
    let w = (goal.at.returns c).After-write in
    let g = (goal.at.returns c).Else-address-gt-GREATEST_ADDRESS in
    let a = c.args in
    let (told, left) = none_laid a.buf.now a.address a.r (within g) c.write.new.buf ((report w).good (ap (λ x. (told_of x).code) c.in_ok-write.was)) _ c.lay.new.buf c.lay.result (digits d) c.lay.ensures c.if-lay.false in
    (ap refused_by c.into-2.ensures ∙ told, left)
