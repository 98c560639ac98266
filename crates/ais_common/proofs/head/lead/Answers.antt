-- `lead` gives 01's first tests: each call's answer is its part of the definition.
use Rattle.std.proofs.Common.{refl, sym}
use borrow.Author.Tests.{le-leb, lt-leb}
use Rattle.format.specs.Laws.Codes.{just_so, just_not}
use Rattle.ais_common.specs.Lead.{told}
use Rattle.ais_common.proofs.head.lead.Goals as goal

pub returns-then-len-lt-SMALLEST : goal.returns-then-len-lt-SMALLEST
unfolding told
returns-then-len-lt-SMALLEST c = rw (lt-leb 23 c.args.len c.if-len-lt-SMALLEST.true) refl

pub returns-then-not-is_kind_of : goal.returns-then-not-is_kind_of
unfolding told
returns-then-not-is_kind_of c =
    rw (le-leb 23 c.args.len c.if-len-lt-SMALLEST.false, sym c.if-not-is_kind_of.ensures) refl

pub returns-then-len-asked : goal.returns-then-len-asked
unfolding told
returns-then-len-asked c =
    rw (le-leb 23 c.args.len c.if-len-lt-SMALLEST.false, sym c.if-not-is_kind_of.ensures, just_not c.args.asked.bytes c.if-len-asked.true) refl

pub returns : goal.returns
unfolding told
returns c =
    rw (le-leb 23 c.args.len c.if-len-lt-SMALLEST.false, sym c.if-not-is_kind_of.ensures, just_so c.args.asked.bytes c.if-len-asked.false) refl
