-- `row` meets its contract: place by place.
use mathlib.Core.Path.{◌≡◌, ◌∙◌}
use mathlib.Core.List.{[], ◌∷◌}
use Rattle.desk_bytes.specs.Laws.Changes.{four_in, row_long}
use Rattle.desk_bytes.proofs.row.Goals as goal

pub returns : goal.returns
returns c =
    let s = c.args.s.now in
    let four : _ ≡ four_in s = λ i. c.place.ensures i ∷ c.place-2.ensures i ∷ c.place-3.ensures i ∷ c.place-4.ensures i ∷ [] in
    four ∙ row_long s c.requires
