-- `address`: each way out is one test of the definition.
use Rattle.std.proofs.Common.{sym, ◌∙◌}
use Rattle.sentence.specs.Laws.Tests.{address_zero, address_other, address_digits}
use Rattle.sentence.proofs.pattern.address.Goals as goal
use Rattle.sentence.proofs.pattern.address.Goals.{else-part-ne48-via-then-part-ne48+else-all_digits, else-part-ne48-via-else-part-ne48}

pub returns-then-all_digits : goal.returns-then-all_digits
returns-then-all_digits c =
    rw (address_digits c.args.part.now c.requires c.if-part-ne48.true (sym c.all_digits.ensures ∙ c.if-all_digits.true)) c.number.ensures

pub returns-else-part-ne48 : goal.returns-else-part-ne48
returns-else-part-ne48 c =
    let part = c.args.part.now in
    elim c.else-part-ne48.branch [
      | else-part-ne48-via-then-part-ne48+else-all_digits w ↦ rw (address_other part (sym w.all_digits.ensures ∙ w.if-all_digits.false))
      | else-part-ne48-via-else-part-ne48 w ↦ rw (address_zero part w.if-part-ne48.false)
    ]
