-- `ask` goes by the places by value: the row's first four are read, and the one that may change is stored.
use mathlib.Core.Path.{◌≡◌, subst₂}
use Rattle.std.specs.Prelude.{Result, Ok, Err, set}
use Rattle.format.specs.declared.Refusal.{Refusal}
use Rattle.places.specs.Places.{place_at}
use Rattle.places.specs.Promises.{Asks, AskTurn}
use Rattle.places.specs.Replies.{turned}
use Rattle.places.specs.declared.Turn.{Turn}
use Rattle.places.specs.Laws.Row.{asks_short, asks_row}
use Rattle.desk.proofs.Ways.{refused_reply, first_stays}
use Rattle.desk.proofs.ask.Goals.{After-ask}
use Rattle.desk.proofs.ask.Goals as goal

pub returns-then-places-lt-PLACES : goal.returns-then-places-lt-PLACES
returns-then-places-lt-PLACES c = let a = c.args in asks_short a.places.now a.store.now a.number a.notice.now a.missing.now c.if-places-lt-PLACES.true

-- what the places by value answer, over the row
over : (c : After-ask) → (r : Result Turn Refusal) → c.ask.result ≡ r → let a = c.args in let t = turned (place_at a.places.now 0) r in Asks a.places.now a.store.now a.number a.notice.now a.missing.now t.reply (set a.places.now t.at t.place) c.ask.new.notice c.ask.new.missing
over c r e =
    let a = c.args in
    let n = c.ask.new in
    asks_row a.places.now a.store.now a.number a.notice.now a.missing.now (turned (place_at a.places.now 0) r) n.notice n.missing c.if-places-lt-PLACES.false
    (subst₂ (λ ps r. AskTurn ps a.store.now a.number a.notice.now a.missing.now (turned (place_at ps 0) r) n.notice n.missing) c.front-four.ensures e c.ask.ensures)

pub returns-in_err-asked : goal.returns-in_err-asked
returns-in_err-asked c =
    let a = c.args in
    let n = c.ask.new in
    subst₂ (λ x qs. Asks a.places.now a.store.now a.number a.notice.now a.missing.now x qs n.notice n.missing) (refused_reply c.from_residual.result _ c.from_residual.ensures.1) (first_stays a.places.now)
    (over (goal.at.returns-in_err-asked c).After-ask (Err c.in_err-asked.field-0.0) c.in_err-asked.was)

pub returns : goal.returns
returns c = over (goal.at.returns c).After-ask (Ok c.in_ok-asked.asked) c.in_ok-asked.was
