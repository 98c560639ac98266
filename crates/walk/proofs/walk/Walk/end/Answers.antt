-- `end` takes the verdict by the bits that close the message; a field that is still sought was not found.
use Rattle.std.proofs.Common.{false, cond, eqb, ap, ◌∙◌, ap₂}
use Rattle.format.specs.Fmt.{pad}
use Rattle.walk.specs.Reading.{ended}
use Rattle.walk.specs.Walk.{seen, sticks}
use Rattle.walk.proofs.walk.Walk.end.Goals as goal

pub returns : goal.returns
unfolding ended
returns c =
    let r = c.args.self in
    let into = c.past-into.ensures ∙ ap (λ x. cond (eqb x 5) 0 (pad r.at)) c.closing-closed.ensures in
    let verdict = c.judged.ensures ∙ ap₂ (λ x i. sticks x i (seen r)) c.closing-closed.ensures into in
    let spot = c.spot_found.ensures in
    λ i. record { at = r.at; code = (verdict i).code; offset = (verdict i).bit; v = 0; seek = false; left = 0; found = spot.found i; spot = spot.place i; width = spot.width i }
