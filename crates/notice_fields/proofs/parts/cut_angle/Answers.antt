-- `cut_angle` judges the bits that there are.
use mathlib.Core.List.{[]}
use mathlib.Core.Path.{ap, ◌∙◌}
use Rattle.walk.specs.Pieces.{piecewise}
use Rattle.notice_fields.specs.Parts.{angle}
use Rattle.notice_fields.proofs.parts.cut_angle.Goals as goal

pub returns : goal.returns
returns c = let a = c.args in c.angle.ensures ∙ ap (piecewise (angle a.d a.most) []) c.at.ensures
