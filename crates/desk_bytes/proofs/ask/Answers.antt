-- `ask` meets its contract: by value, and the place that changed put back.
use mathlib.Core.Path.{◌≡◌, ◌∙◌, subst₂}
use Rattle.std.specs.Prelude.{Result, Ok, Err}
use Rattle.format.specs.Laws.Outcomes.{told_exit}
use Rattle.format.specs.declared.Refusal.{Refusal}
use Rattle.places.specs.Desk.{refusal_of}
use Rattle.places.specs.Places.{place_at}
use Rattle.places.specs.Replies.{turned}
use Rattle.places.specs.declared.Turn.{Turn}
use Rattle.places.specs.Promises.{AskTurn}
use Rattle.desk_bytes.specs.Bytes.{row_in}
use Rattle.desk_bytes.specs.Promises.{count_of, language_of, AsksIn}
use Rattle.desk_bytes.specs.Laws.Changes.{put_back, asks_in, asks_few}
use Rattle.desk_bytes.proofs.ask.Goals.{After-ask}
use Rattle.desk_bytes.proofs.ask.Goals as goal

pub returns-then-places : goal.returns-then-places
returns-then-places c =
    let a = c.args in
    let (x, y, z, u, v, w) = asks_few a.places.now c.if-places.true a.store.now a.number a.notice.now a.missing.now a.count.now a.language.now in
    (c.into.ensures ∙ x, y, z, u, v, w)

-- what the places by value answer, over their bytes
over : (c : After-ask) → (r : Result Turn Refusal) → c.ask.result ≡ r → let a = c.args in let n = c.ask.new in let t = turned (place_at (row_in a.places.now) 0) r in
    AsksIn a.places.now a.store.now a.number a.notice.now a.missing.now a.count.now a.language.now (refusal_of t.reply) (put_back a.places.now t) n.notice n.missing (count_of t.reply a.count.now) (language_of t.reply a.language.now)
over c r e =
    let a = c.args in
    let n = c.ask.new in
    asks_in a.places.now c.if-places.false a.store.now a.number a.notice.now a.missing.now a.count.now a.language.now (turned (place_at (row_in a.places.now) 0) r) n.notice n.missing
    (subst₂ (λ ps r. AskTurn ps a.store.now a.number a.notice.now a.missing.now (turned (place_at ps 0) r) n.notice n.missing) c.row-four.ensures e c.ask.ensures)

pub returns-in_err-turn : goal.returns-in_err-turn
returns-in_err-turn c =
    let (x, y, z, u, v, w) = over (goal.at.returns-in_err-turn c).After-ask (Err c.in_err-turn.field-0.0) c.in_err-turn.was in
    (told_exit c.from_residual.result _ c.from_residual.ensures.1 ∙ x, y, z, u, v, w)

pub settle-requires : goal.settle-requires
settle-requires c = (c.in_ok-turn.ensures.1, c.if-places.false)

pub returns : goal.returns
returns c =
    let (x, y, z, u, v, w) = over (goal.at.returns c).After-ask (Ok c.in_ok-turn.turn) c.in_ok-turn.was in
    (c.told.ensures ∙ x, c.settle.ensures ∙ y, z, u, c.count_of.ensures ∙ v, c.language_of.ensures ∙ w)
