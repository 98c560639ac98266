-- `accept` goes by the places by value: the row's first four are read, and the one that may change is stored.
use mathlib.Core.Path.{◌≡◌, ap, subst₂}
use Rattle.std.specs.Prelude.{Result, Ok, Err, set}
use Rattle.format.specs.declared.Refusal.{Refusal}
use Rattle.places.specs.Places.{place_at}
use Rattle.places.specs.Promises.{Accepts, AcceptTurn}
use Rattle.places.specs.Replies.{Refused, turned}
use Rattle.places.specs.declared.Turn.{Turn}
use Rattle.places.specs.Laws.Row.{accepts_row}
use Rattle.places.proofs.Laws.Row.{accepts_short}
use Rattle.desk.proofs.Ways.{refused_reply, first_stays}
use Rattle.desk.proofs.accept.Goals.{After-accept}
use Rattle.desk.proofs.accept.Goals as goal

pub returns-then-places-lt-PLACES : goal.returns-then-places-lt-PLACES
returns-then-places-lt-PLACES c = let a = c.args in accepts_short a.places.now a.store.now a.packet.now _ c.if-places-lt-PLACES.true (ap Refused c.unplaced.ensures)

-- what the places by value answer, over the row
over : (c : After-accept) → (r : Result Turn Refusal) → c.accept.result ≡ r → let a = c.args in let t = turned (place_at a.places.now 0) r in Accepts a.places.now a.store.now a.packet.now t.reply (set a.places.now t.at t.place) c.accept.new.store
over c r e =
    let a = c.args in
    let n = c.accept.new in
    accepts_row a.places.now a.store.now a.packet.now (turned (place_at a.places.now 0) r) n.store c.if-places-lt-PLACES.false
    (subst₂ (λ ps r. AcceptTurn ps a.store.now a.packet.now (turned (place_at ps 0) r) n.store) c.front-four.ensures e c.accept.ensures)

pub returns-in_err-accepted : goal.returns-in_err-accepted
returns-in_err-accepted c =
    let a = c.args in
    subst₂ (λ x qs. Accepts a.places.now a.store.now a.packet.now x qs c.accept.new.store) (refused_reply c.from_residual.result _ c.from_residual.ensures.1) (first_stays a.places.now)
    (over (goal.at.returns-in_err-accepted c).After-accept (Err c.in_err-accepted.field-0.0) c.in_err-accepted.was)

pub returns : goal.returns
returns c = over (goal.at.returns c).After-accept (Ok c.in_ok-accepted.accepted) c.in_ok-accepted.was
