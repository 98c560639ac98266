-- `given` is one step, with the bits' value and the caller's fault.
use Rattle.std.proofs.Common.{false, cond, ap, ◌∙◌, ap₂}
use Rattle.format.specs.Refusals.{code_of}
use Rattle.walk.specs.Walk.{seen, onward}
use Rattle.walk.specs.Laws.Reading.{got_lt}
use Rattle.walk.specs.Walk.{Walk}
use Rattle.walk.proofs.walk.Walk.given.Goals as goal

pub returns : goal.returns
unfolding onward
returns c =
    let a = c.args in
    let e = c.on.ensures
    ∙ ap₂ (λ v x. onward a.w false v x 0 (seen a.self)) c.get.ensures (c.unless_cut.ensures ∙ ap (λ b. cond b (code_of a.judged) 1) c.holds-there.ensures) in
    (e, got_lt a.s.now a.self.at a.w (ap (λ (r : Walk). r.v) e))
