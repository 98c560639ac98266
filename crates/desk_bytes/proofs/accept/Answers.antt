-- `accept` meets its contract: by value, and the place that changed put back.
use mathlib.Core.Path.{◌≡◌, ◌∙◌, ap, subst₂}
use Rattle.std.specs.Prelude.{Result, Ok, Err}
use Rattle.format.specs.Laws.Outcomes.{told_exit}
use Rattle.format.specs.declared.Refusal.{Refusal}
use Rattle.places.specs.Desk.{refusal_of}
use Rattle.places.specs.Places.{place_at}
use Rattle.places.specs.Replies.{Refused, turned}
use Rattle.places.specs.declared.Turn.{Turn}
use Rattle.places.specs.Promises.{AcceptTurn}
use Rattle.desk_bytes.specs.Bytes.{row_in}
use Rattle.desk_bytes.specs.Promises.{again_of, AcceptsIn}
use Rattle.desk_bytes.specs.Laws.Changes.{put_back, accepts_in, accepts_few}
use Rattle.desk_bytes.proofs.accept.Goals.{After-accept}
use Rattle.desk_bytes.proofs.accept.Goals as goal

pub returns-then-places : goal.returns-then-places
returns-then-places c = let a = c.args in accepts_few a.places.now c.if-places.true a.store.now a.packet.now a.again.now _ (ap Refused c.unplaced.ensures)

-- what the places by value answer, over their bytes
over : (c : After-accept) → (r : Result Turn Refusal) → c.accept.result ≡ r → let a = c.args in let t = turned (place_at (row_in a.places.now) 0) r in AcceptsIn a.places.now a.store.now a.packet.now a.again.now (refusal_of t.reply) (put_back a.places.now t) c.accept.new.store (again_of t.reply a.again.now)
over c r e =
    let a = c.args in
    let n = c.accept.new in
    accepts_in a.places.now c.if-places.false a.store.now a.packet.now a.again.now (turned (place_at (row_in a.places.now) 0) r) n.store
    (subst₂ (λ ps r. AcceptTurn ps a.store.now a.packet.now (turned (place_at ps 0) r) n.store) c.row-four.ensures e c.accept.ensures)

pub returns-in_err-turn : goal.returns-in_err-turn
returns-in_err-turn c =
    let (x, y, z, u) = over (goal.at.returns-in_err-turn c).After-accept (Err c.in_err-turn.field-0.0) c.in_err-turn.was in
    (told_exit c.from_residual.result _ c.from_residual.ensures.1 ∙ x, y, z, u)

pub settle-requires : goal.settle-requires
settle-requires c = (c.in_ok-turn.ensures.1, c.if-places.false)

pub returns : goal.returns
returns c =
    let (x, y, z, u) = over (goal.at.returns c).After-accept (Ok c.in_ok-turn.turn) c.in_ok-turn.was in
    (c.told.ensures ∙ x, c.settle.ensures ∙ y, z, c.again_of.ensures ∙ u)
