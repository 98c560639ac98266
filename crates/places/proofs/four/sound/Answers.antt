-- `sound` meets its contract: the pairs, then each place in turn.
use mathlib.Core.Path.{refl, sym, ◌∙◌}
use borrow.Author.Rules.{rules}
use borrow.Author.Tests.{tests}
use Rattle.std.proofs.lemmas.Iterator.{YieldsList-from_slice}
use Rattle.std.proofs.lemmas.Iterator.Search.{all_from_yields_List}
use Rattle.places.specs.Places.{passes}
use Rattle.places.proofs.Listed.{good_listed}
use Rattle.places.proofs.four.sound.Goals as goal

pub returns-then-apart : goal.returns-then-apart
returns-then-apart c =
    let ps = c.args.places.now in
    all_from_yields_List passes _ _ c.all.result c.all.ensures.ran (YieldsList-from_slice ps cc) (λ x b q k. search (rules, tests))
    ∙ sym (good_listed ps (search rules) ∙ rw (sym c.apart.ensures ∙ c.if-apart.true) refl)

pub returns-else-apart : goal.returns-else-apart
returns-else-apart c = c.if-apart.false ∙ sym (good_listed c.args.places.now (search rules) ∙ rw (sym c.apart.ensures ∙ c.if-apart.false) refl)
