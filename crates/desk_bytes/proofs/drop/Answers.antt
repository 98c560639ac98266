-- `drop` meets its contract: by value, and the place that changed put back.
use mathlib.Core.Path.{◌≡◌, ◌∙◌, subst₂}
use Rattle.std.specs.Prelude.{Result, Ok, Err}
use Rattle.format.specs.Laws.Outcomes.{told_exit}
use Rattle.format.specs.declared.Refusal.{Refusal}
use Rattle.places.specs.Desk.{refusal_of}
use Rattle.places.specs.Places.{place_at}
use Rattle.places.specs.Replies.{turned}
use Rattle.places.specs.declared.Turn.{Turn}
use Rattle.places.specs.Promises.{DropTurn}
use Rattle.desk_bytes.specs.Bytes.{row_in}
use Rattle.desk_bytes.specs.Promises.{DropsIn}
use Rattle.desk_bytes.specs.Laws.Changes.{put_back, drops_in, drops_few}
use Rattle.desk_bytes.proofs.drop.Goals.{After-drop}
use Rattle.desk_bytes.proofs.drop.Goals as goal

pub returns-then-places : goal.returns-then-places
returns-then-places c =
    let a = c.args in
    let (x, y) = drops_few a.places.now c.if-places.true a.store.now a.number in
    (c.into.ensures ∙ x, y)

-- what the places by value answer, over their bytes
over : (c : After-drop) → (r : Result Turn Refusal) → c.drop.result ≡ r → let a = c.args in let t = turned (place_at (row_in a.places.now) 0) r in DropsIn a.places.now a.store.now a.number (refusal_of t.reply) (put_back a.places.now t)
over c r e =
    let a = c.args in
    drops_in a.places.now c.if-places.false a.store.now a.number (turned (place_at (row_in a.places.now) 0) r)
    (subst₂ (λ ps r. DropTurn ps a.store.now a.number (turned (place_at ps 0) r)) c.row-four.ensures e c.drop.ensures)

pub returns-in_err-turn : goal.returns-in_err-turn
returns-in_err-turn c =
    let (x, y) = over (goal.at.returns-in_err-turn c).After-drop (Err c.in_err-turn.field-0.0) c.in_err-turn.was in
    (told_exit c.from_residual.result _ c.from_residual.ensures.1 ∙ x, y)

pub returns : goal.returns
returns c =
    let (x, y) = over (goal.at.returns c).After-drop (Ok c.in_ok-turn.turn) c.in_ok-turn.was in
    (c.told.ensures ∙ x, c.settle.ensures ∙ y)
