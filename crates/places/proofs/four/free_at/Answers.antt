-- `free_at` meets its contract: the first place that is not open.
use mathlib.Core.Path.{◌∙◌}
use mathlib.Core.Bool.{not}
use borrow.Author.Rules.{rules}
use borrow.Author.Tests.{tests}
use Rattle.std.proofs.lemmas.Iterator.{YieldsList-from_slice}
use Rattle.std.proofs.lemmas.Iterator.Search.{position_from_yields_List}
use Rattle.places.specs.declared.Place.{Place}
use Rattle.places.proofs.Listed.{free_listed}
use Rattle.places.proofs.four.free_at.Goals as goal

pub returns : goal.returns
returns c =
    let ps = c.args.places.now in
    position_from_yields_List (λ (p : Place). not p.«open») _ _ c.position.result c.position.ensures.ran (YieldsList-from_slice ps cc) (λ x b q k. search (rules, tests))
    ∙ free_listed ps (search rules)
