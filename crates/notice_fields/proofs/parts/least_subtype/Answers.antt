-- `least_subtype` is 0 where the most is.
use mathlib.Core.Path.{sym, ◌∙◌}
use borrow.Author.Tests.{eq-eqb, ne_eqb}
use Rattle.notice_fields.specs.PartsSteps.{least_subtype, most_subtype}
use Rattle.notice_fields.proofs.parts.least_subtype.Goals as goal

pub returns-then-most_subtype-eq0 : goal.returns-then-most_subtype-eq0
unfolding least_subtype
returns-then-most_subtype-eq0 c = rw (eq-eqb (most_subtype c.args.kind) 0 (sym c.most_subtype.ensures ∙ c.if-most_subtype-eq0.true))

pub returns-else-most_subtype-eq0 : goal.returns-else-most_subtype-eq0
unfolding least_subtype
returns-else-most_subtype-eq0 c = rw (ne_eqb (most_subtype c.args.kind) 0 (λ z. c.if-most_subtype-eq0.false (c.most_subtype.ensures ∙ z)))
