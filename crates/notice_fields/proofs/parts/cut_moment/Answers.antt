-- `cut_moment` judges the bits that there are.
use mathlib.Core.List.{[]}
use mathlib.Core.Path.{ap, ◌∙◌}
use Rattle.walk.specs.Pieces.{piecewise}
use Rattle.notice_fields.specs.Parts.{moment}
use Rattle.notice_fields.proofs.parts.cut_moment.Goals as goal

pub returns : goal.returns
returns c = c.moment.ensures ∙ ap (piecewise moment []) c.at.ensures
