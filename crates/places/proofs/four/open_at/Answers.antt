-- `open_at` meets its contract: the first place that serves the number.
use mathlib.Core.Path.{◌∙◌}
use borrow.Author.Rules.{rules}
use borrow.Author.Tests.{tests}
use Rattle.std.proofs.lemmas.Iterator.{YieldsList-from_slice}
use Rattle.std.proofs.lemmas.Iterator.Search.{position_from_yields_List}
use Rattle.places.specs.Places.{serves}
use Rattle.places.proofs.Listed.{open_listed}
use Rattle.places.proofs.four.open_at.Goals as goal

pub returns : goal.returns
returns c =
    let a = c.args in
    position_from_yields_List (λ p. serves p a.number) _ _ c.position.result c.position.ensures.ran (YieldsList-from_slice a.places.now cc) (λ x b q k. search (rules, tests))
    ∙ open_listed a.places.now (search rules) a.number
