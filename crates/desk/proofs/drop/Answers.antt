-- `drop` goes by the places by value: the row's first four are read, and the one that may change is stored.
use mathlib.Core.Path.{◌≡◌, subst₂}
use Rattle.std.specs.Prelude.{Result, Ok, Err, set}
use Rattle.format.specs.declared.Refusal.{Refusal}
use Rattle.places.specs.Places.{place_at}
use Rattle.places.specs.Promises.{Drops, DropTurn}
use Rattle.places.specs.Replies.{turned}
use Rattle.places.specs.declared.Turn.{Turn}
use Rattle.places.specs.Laws.Row.{drops_short, drops_row}
use Rattle.desk.proofs.Ways.{refused_reply, first_stays}
use Rattle.desk.proofs.drop.Goals.{After-drop}
use Rattle.desk.proofs.drop.Goals as goal

pub returns-then-places-lt-PLACES : goal.returns-then-places-lt-PLACES
returns-then-places-lt-PLACES c = let a = c.args in drops_short a.places.now a.store.now a.number c.if-places-lt-PLACES.true

-- what the places by value answer, over the row
over : (c : After-drop) → (r : Result Turn Refusal) → c.drop.result ≡ r → let a = c.args in let t = turned (place_at a.places.now 0) r in Drops a.places.now a.store.now a.number t.reply (set a.places.now t.at t.place)
over c r e =
    let a = c.args in
    drops_row a.places.now a.store.now a.number (turned (place_at a.places.now 0) r) c.if-places-lt-PLACES.false
    (subst₂ (λ ps r. DropTurn ps a.store.now a.number (turned (place_at ps 0) r)) c.front-four.ensures e c.drop.ensures)

pub returns-in_err-dropped : goal.returns-in_err-dropped
returns-in_err-dropped c =
    let a = c.args in
    subst₂ (λ x qs. Drops a.places.now a.store.now a.number x qs) (refused_reply c.from_residual.result _ c.from_residual.ensures.1) (first_stays a.places.now)
    (over (goal.at.returns-in_err-dropped c).After-drop (Err c.in_err-dropped.field-0.0) c.in_err-dropped.was)

pub returns : goal.returns
returns c = over (goal.at.returns c).After-drop (Ok c.in_ok-dropped.dropped) c.in_ok-dropped.was
