-- `most_subtype` goes by the type.
use mathlib.Core.Path.{◌≡◌, refl}
use mathlib.Core.Logic.{◌⊎◌, inl, inr}
use native.Mathlib.Omega.{arith}
use borrow.Author.Tests.{ne_eqb}
use Rattle.notice_fields.specs.PartsSteps.{most_subtype}
use Rattle.notice_fields.proofs.parts.most_subtype.Goals as goal

pub returns-in-1 : goal.returns-in-1
unfolding most_subtype
returns-in-1 c = rw c.in-1.is refl

pub returns-in-4 : goal.returns-in-4
unfolding most_subtype
returns-in-4 c = go c.in-4.is
  where
    go : (c.args.kind ≡ 4) ⊎ (c.args.kind ≡ 6) → 13 ≡ most_subtype c.args.kind
    go (inl e) = rw e refl
    go (inr e) = rw e refl

pub returns-in-5 : goal.returns-in-5
unfolding most_subtype
returns-in-5 c = rw c.in-5.is refl

pub returns-in_default : goal.returns-in_default
unfolding most_subtype
returns-in_default c = rw (ne_eqb c.args.kind 1 (λ e. omega (arith, e)), ne_eqb c.args.kind 4 (λ e. grind (arith, e)), ne_eqb c.args.kind 5 (λ e. omega (arith, e)), ne_eqb c.args.kind 6 (λ e. grind (arith, e))) refl
